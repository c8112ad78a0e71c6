-- The index from the names of types to their numbers.
use Rattle.std.specs.Prelude.{◌≡◌, ℕ, List, Option, Some, None, Vec, if◌then◌else◌, bytes_eq}
use Rattle.std.specs.BTreeMap.{BTreeMap, get_by}
use Rattle.std.specs.Cmp.Lexicographic.{slice_cmp}
use Rattle.std.specs.Option.{option_or}
use Rattle.std.specs.Ordering.{nat_cmp}
use Rattle.crush_edits.specs.Setting.{KindData, first_number}

-- the number that the index has for a name, or none
abbrev pub number_told : {Z : Type 0} → BTreeMap (Vec ℕ Z) ℕ → List ℕ → Option ℕ
number_told numbers n = get_by (λ k. slice_cmp nat_cmp n k.items) numbers

-- THE INDEX IS RIGHT: for each name, it has the number of the first type with this name. For a name that no type has, it has no number
abbrev pub AreNumbersOf : {Z : Type 0} → List KindData → BTreeMap (Vec ℕ Z) ℕ → Type 0
AreNumbersOf kinds numbers = (n : List ℕ) → number_told numbers n ≡ first_number kinds n

-- for each name, both indexes have the same number, or neither has one
abbrev pub TellsSameNumbers : {Z : Type 0} → BTreeMap (Vec ℕ Z) ℕ → BTreeMap (Vec ℕ Z) ℕ → Type 0
TellsSameNumbers old new = (n : List ℕ) → number_told new n ≡ number_told old n

-- for each name, the new index has the same number as the old index, or neither has one. There is one exception: if the old index has no number for the given name, the new index has the given number for it
abbrev pub TellsFirst : {Z : Type 0} → BTreeMap (Vec ℕ Z) ℕ → BTreeMap (Vec ℕ Z) ℕ → List ℕ → ℕ → Type 0
TellsFirst old new name number =
    (n : List ℕ) → number_told new n ≡ option_or (number_told old n) (if bytes_eq name n then Some number else None)
