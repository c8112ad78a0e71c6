-- Laws about misfits: the word that a fault names is the first word of the line that doesn't fit, and the fault says exactly which words would fit at this place.
use Rattle.std.specs.Prelude.{◌≡◌, ℕ, suc, ◌≤◌, ◌<◌, Bool, true, false, List, ◌∷◌, ◌++◌, Result, Err, IsOk, IsSome, codes, length, take}
use Rattle.crush_units.specs.Name.{is_name}
use Rattle.crush_units.specs.Weight.{weight_of_text}
use Rattle.crush_history.specs.Said.{device_named}
use Rattle.crush_script.specs.declared.command.LineFault.{LineFault}
use Rattle.crush_script.specs.declared.command.LineFault.TheVariants.{Word}
use Rattle.crush_script.specs.declared.fault.Due.{Due}
use Rattle.crush_script.specs.declared.fault.Due.TheVariants as due
use Rattle.crush_script.specs.declared.fault.Misfit.{Misfit}
use Rattle.crush_script.specs.Words.{is_pair, is_count}
use Rattle.crush_script.specs.Command.{command, operator}

-- the word fits at a place for which a misfit reports this `Due` as required. `NoMorePairs` and `End` report that the line must end, so no word fits there
abbrev pub IsDue : Due → List ℕ → Type 0
IsDue due.Device word = (is_name word ≡ true) × IsSome (device_named word)
IsDue due.Weight word = IsOk (weight_of_text word)
IsDue due.Name word = is_name word ≡ true
IsDue due.Pair word = is_pair word ≡ true
IsDue due.NoMorePairs word = ⊥
IsDue due.At word = word ≡ codes "at"
IsDue due.Changes word = is_count word ≡ true
IsDue due.End word = ⊥

-- whether the line may end at a place for which a misfit reports this `Due`
abbrev pub may_end : Due → Bool
may_end due.Device = false
may_end due.Weight = false
may_end due.Name = false
may_end due.Pair = true
may_end due.NoMorePairs = true
may_end due.At = true
may_end due.Changes = false
may_end due.End = true

-- FIRST MISFIT: of the words of a line that `parse` reads, the word with this index is the first one that doesn't fit, and d says which words would fit. `fits`: the words before it, followed by any word that fits, are the beginning of a line that can be read. `only`: followed by any other word, they aren't the beginning of such a line. `ends`: if the line may end before this index, the words before it are by themselves a line that can be read. `wrong`: no line that can be read begins with the words up to and including the misfit.
pub record FirstMisfit {X : Type 0} (parse : List (List ℕ) → Result X LineFault) (words : List (List ℕ)) (index : ℕ) (d : Due) : Type 0 where
  pub within : index ≤ length words
  pub fits : (word : List ℕ) → IsDue d word → (more : List (List ℕ)) × IsOk (parse (take index words ++ word ∷ more))
  pub only : (word : List ℕ) (more : List (List ℕ)) → IsOk (parse (take index words ++ word ∷ more)) → IsDue d word
  pub ends : may_end d ≡ true → IsOk (parse (take index words))
  pub wrong : index < length words → (more : List (List ℕ)) → IsOk (parse (take (suc index) words ++ more)) → ⊥

-- the law for the lines that `parse` reads: if `parse` reports a misfit, it is the first one. `MisfitsOfCommands` is the law for lines with commands, and `MisfitsOfOperators` is the law for lines `%operator NAME`
abbrev pub MisfitsAreFirst : {X : Type 0} → (List (List ℕ) → Result X LineFault) → Type 0
MisfitsAreFirst parse = (words : List (List ℕ)) (m : Misfit) → parse words ≡ Err (Word m) → FirstMisfit parse words m.word m.due

abbrev pub MisfitsOfCommands : Type 0
MisfitsOfCommands = MisfitsAreFirst command

abbrev pub MisfitsOfOperators : Type 0
MisfitsOfOperators = MisfitsAreFirst operator
