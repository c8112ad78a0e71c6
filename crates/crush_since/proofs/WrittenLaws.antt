-- Lemmas about what has been written of a text that may be empty.
use Rattle.std.proofs.Common.{◌≡◌, ℕ, ◌<◌, List, [], ◌∷◌, ◌++◌, length, refl, ap, arith, ⊎_elim}
use Rattle.std.specs.Prelude.{◌==◌, not, Option, None, Result, Ok, Err, IfErr}
use Rattle.std.proofs.lemmas.List.{length-append}
use Rattle.crush_model.specs.Table.{total}
use Rattle.std.proofs.lemmas.Bool.Decides.{eqb_tells}
use Rattle.crush_units.specs.Writes.{Writes}
use Rattle.crush_units.specs.declared.write.WriteFault.{WriteFault}
use Rattle.crush_units.specs.declared.write.WriteFault.TheVariants.{Write, OutOfMemory}
use Rattle.crush_since.specs.Changes.{has_some}
use Rattle.crush_since.specs.Since.{PlainMap, totals_line}
use Rattle.crush_since.specs.Tallies.{counts_line}
use Rattle.crush_since.specs.CountedByName.{tally_by_name}
use Rattle.crush_since.specs.SinceNames.{WritesOrNothing, since_names_part, since_names_text}
use Rattle.crush_since.proofs.PartLaws.{totals_are_some}

-- if no memory is allocated, either the whole text or a proper prefix has been written
pub written : {X : Type 0} (r : Result X WriteFault) (old new : Option (List ℕ)) (text : List ℕ) → IfErr r (λ fault. fault ≡ Write) → Writes r old new text → WritesOrNothing r old new text
written (Ok x) old new text fault w = w
written (Err Write) old new text fault w = w
written (Err OutOfMemory) old new text fault w = absurd (let no_way : OutOfMemory ≡ Write = fault in cc)

-- a text isn't empty if and only if it has a byte
pub some_of : (text : List ℕ) → not (length text == 0) ≡ has_some text
some_of [] = refl
some_of (b ∷ bs) = ⊎_elim (λ q. absurd (let none : length (b ∷ bs) ≡ 0 = q.1 in omega (arith, none))) (λ q. ap not q.0) (eqb_tells (length (b ∷ bs)) 0)

pub text_is_some : (old new : PlainMap) → 0 < length (since_names_text old new)
unfolding since_names_text
text_is_some old new =
    let items = since_names_part None old new in
    let totals = totals_line (total old.table) (total new.table) in
    omega (arith, length-append (items ++ totals) (counts_line (tally_by_name old.table new.table)), length-append items totals, totals_are_some (total old.table) (total new.table))
