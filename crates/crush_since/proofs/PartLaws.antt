-- Lemmas about an item's line that is built by appending its parts one after the other.
use Rattle.std.proofs.Common.{◌≡◌, ℕ, zero, suc, Bool, true, false, ⊎_elim, ◌<◌, ◌≤◌, List, [], ◌∷◌, ◌++◌, length, drop, ap, sym, ◌∙◌, refl, arith, append_assoc}
use Rattle.std.specs.Prelude.{◌==◌, codes}
use Rattle.std.proofs.lemmas.Bool.Decides.{eqb_tells}
use Rattle.std.proofs.lemmas.List.{length-append}
use Rattle.std.proofs.lemmas.List.Concat.{flat_map-append}
use Rattle.crush_units.specs.declared.id.ItemId.{ItemId}
use Rattle.crush_units.specs.Weight.{weight_text}
use Rattle.crush_model.specs.Table.{total}
use Rattle.crush_since.specs.Classes.{class_lines}
use Rattle.crush_since.specs.Emptied.{emptied_lines}
use Rattle.crush_since.specs.ItemParts.{behind, line_text, line}
use Rattle.crush_since.specs.Settings.{setting_lines}
use Rattle.crush_since.specs.Since.{PlainMap, all_ids, item_lines, totals_line, last_lines, since_text}
use Rattle.crush_since.specs.Tallies.{tally_of, counts_line}
use Rattle.crush_since.specs.declared.since.tally.Tally.{Tally}

-- appending more parts after the parts so far
pub more_parts : (old now new : List ℕ) (ps qs : List (List ℕ)) → now ≡ old ++ behind ps → new ≡ now ++ behind qs → new ≡ old ++ behind (ps ++ qs)
more_parts old now new ps qs before after =
    after ∙ ap (λ l. l ++ behind qs) before ∙ append_assoc old (behind ps) (behind qs) ∙ ap (λ l. old ++ l) (sym (flat_map-append (λ p. codes "; " ++ p) ps qs))

-- if there are no parts, there is no line
pub no_line : (name : List ℕ) (i : ItemId) (ps : List (List ℕ)) → length (behind ps) ≡ 0 → line name i ps ≡ []
no_line name i [] none = refl
no_line name i (p ∷ rest) none = absurd (omega (arith, none))

-- a text of at least one part begins with `; `, so its length is at least 2
pub marked : (ps : List (List ℕ)) → 0 < length (behind ps) → 2 ≤ length (behind ps)
marked [] some = absurd (omega (arith, some))
marked (p ∷ ps) some = omega arith

-- if there are parts, there is a line
pub some_line : (name : List ℕ) (i : ItemId) (ps : List (List ℕ)) → 0 < length (behind ps) → line name i ps ≡ line_text name i (drop 2 (behind ps))
some_line name i [] some = absurd (omega (arith, some))
some_line name i (p ∷ rest) some = refl

-- three or four texts that are appended one after the other
pub three_sections : (out one two three a b c : List ℕ) → one ≡ out ++ a → two ≡ one ++ b → three ≡ two ++ c → three ≡ out ++ ((a ++ b) ++ c)
three_sections out one two three a b c is_one is_two is_three = is_three ∙ ap (λ l. l ++ c) (is_two ∙ ap (λ l. l ++ b) is_one ∙ append_assoc out a b) ∙ append_assoc out (a ++ b) c

pub four_sections : (out one two three four a b c d : List ℕ) → one ≡ out ++ a → two ≡ one ++ b → three ≡ two ++ c → four ≡ three ++ d → four ≡ out ++ (((a ++ b) ++ c) ++ d)
four_sections out one two three four a b c d is_one is_two is_three is_four =
    is_four ∙ ap (λ l. l ++ d) (three_sections out one two three a b c is_one is_two is_three) ∙ append_assoc out ((a ++ b) ++ c) d

pub five_sections : (out one two three four five a b c d e : List ℕ) → one ≡ out ++ a → two ≡ one ++ b → three ≡ two ++ c → four ≡ three ++ d → five ≡ four ++ e → five ≡ out ++ ((((a ++ b) ++ c) ++ d) ++ e)
five_sections out one two three four five a b c d e is_one is_two is_three is_four is_five =
    is_five ∙ ap (λ l. l ++ e) (four_sections out one two three four a b c d is_one is_two is_three is_four) ∙ append_assoc out (((a ++ b) ++ c) ++ d) e

-- if a length isn't 0, it is greater than 0
pub some_there : (n : ℕ) (b : Bool) → b ≡ (n == 0) → b ≡ false → 0 < n
some_there n b is no_way = ⊎_elim (λ q. absurd (let both : false ≡ true = sym no_way ∙ is ∙ q.0 in cc)) (λ q. positive n q.1) (eqb_tells n 0) where
  positive : (m : ℕ) → (m ≡ 0 → ⊥) → 0 < m
  positive zero other = absurd (other refl)
  positive (suc m) other = omega arith

pub none_there : (n : ℕ) (b : Bool) → b ≡ (n == 0) → b ≡ true → n ≡ 0
none_there n b is yes_way = ⊎_elim (λ q. q.1) (λ q. absurd (let both : true ≡ false = sym yes_way ∙ is ∙ q.0 in cc)) (eqb_tells n 0)

-- no text about changes is empty, because it has the line of totals
pub totals_are_some : (a b : ℕ) → 0 < length (totals_line a b)
unfolding totals_line
totals_are_some a b = let last = length-append (codes "total " ++ weight_text a ++ codes " to " ++ weight_text b) (10 ∷ []) in omega (arith, last)

pub last_lines_are_some : (old new : PlainMap) (n : Tally) → 0 < length (last_lines old new n)
unfolding last_lines
last_lines_are_some old new n =
    let settings = setting_lines old.setting new.setting in
    let rules = emptied_lines old.table new.table new.setting in
    let classes = class_lines old.table new.table new.setting in
    let totals = totals_line (total old.table) (total new.table) in
    omega (arith, length-append (settings ++ rules ++ classes ++ totals) (counts_line n), length-append (settings ++ rules ++ classes) totals, totals_are_some (total old.table) (total new.table))

pub since_text_is_some : (old new : PlainMap) → 0 < length (since_text old new)
unfolding since_text
since_text_is_some old new =
    let counts = tally_of old.table new.table (all_ids old.table new.table) in omega (arith, length-append (item_lines old new) (last_lines old new counts), last_lines_are_some old new counts)
