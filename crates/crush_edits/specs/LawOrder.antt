-- Laws about refusals: their numbers, and for which reason an edit is refused if there are several reasons.
use Rattle.std.specs.Prelude.{◌≡◌, ℕ, Bool, ◌-◌, ◌≤◌, List, [], ◌∷◌, ◌++◌, Some, None, true, false, All, map, codes}
use Rattle.std.specs.List.{slice_get}
use Rattle.std.specs.List.Sorted.{IsStrictlyIncreasing}
use Rattle.crush_model.specs.Table.{Row}
use Rattle.crush_edits.specs.declared.refusal.Refusal.{Refusal}
use Rattle.crush_edits.specs.declared.edit.Edit.{Edit}
use Rattle.crush_edits.specs.Setting.{SettingData}
use Rattle.crush_edits.specs.Refusal.{refusal_number, refusal_name, refusal_error}
use Rattle.crush_edits.specs.Answer.{After, first_refusal}
use Rattle.crush_edits.specs.Edit.{after, tests, refusal}

-- a row of the table of refusals: the refusal's number, its name, and the number of its Linux error
pub record RefusalRow : Type 0 where
  pub number : ℕ
  pub name : List ℕ
  pub error : ℕ

-- the row with this number, this name and this Linux error
abbrev pub no : ℕ → List ℕ → ℕ → RefusalRow
no number name error = record { number = number; name = name; error = error }

-- THE TABLE of all refusals, in the order of their numbers
abbrev pub refusal_rows : List RefusalRow
refusal_rows =
    no 1 (codes "BadName") 22 ∷ (no 2 (codes "BadLocation") 22 ∷ (no 3 (codes "NoSuchType") 22 ∷ (no 4 (codes "NoPlace") 22 ∷ (no 5 (codes "WeightTooLarge") 75
    ∷ (no 6 (codes "NoSuchItem") 2 ∷ (no 7 (codes "NameTaken") 17 ∷ (no 8 (codes "AlreadyPlaced") 17 ∷ (no 9 (codes "NotPlaced") 2 ∷ (no 10 (codes "NotADevice") 22
    ∷ (no 11 (codes "NotABucket") 22 ∷ (no 12 (codes "WrongType") 22 ∷ (no 13 (codes "Loop") 40 ∷ (no 14 (codes "Nested") 22 ∷ (no 15 (codes "NotEmpty") 39
    ∷ (no 16 (codes "InUse") 16 ∷ (no 17 (codes "NotDirectory") 20 ∷ (no 18 (codes "AlreadyRenamed") 114 ∷ (no 19 (codes "NoRoom") 28 ∷ (no 20 (codes "SumTooLarge") 34 ∷ (no 21 (codes "ClassBound") 16 ∷ []))))))))))))))))))))

-- the row that a refusal has to have in the table
abbrev pub row_of_refusal : Refusal → RefusalRow
row_of_refusal r = no (refusal_number r) (refusal_name r) (refusal_error r)

-- the row of each refusal is in the table, at the position of its number
abbrev pub RowsAreRefusals : Type 0
RowsAreRefusals = (r : Refusal) → slice_get refusal_rows (refusal_number r - 1) ≡ Some (row_of_refusal r)

-- the refusals in the list of an edit's tests are in strictly increasing order of their numbers
abbrev pub TestsRise : Type 0
TestsRise = (s : SettingData) (t : List Row) (e : Edit) (a : After) → IsStrictlyIncreasing (map (λ p. refusal_number p.0) (tests s t e a))

-- if an edit is refused, its refusal has the least number of all refusals whose tests hold
abbrev pub LeastIsTold : Type 0
LeastIsTold = (s : SettingData) (t : List Row) (e : Edit) (r : Refusal) → refusal s t e ≡ Some r → All (λ p. p.1 ≡ true → refusal_number r ≤ refusal_number p.0) (tests s t e (after s t e))

-- if an edit isn't refused, then none of its tests holds
abbrev pub NoneIsTold : Type 0
NoneIsTold = (s : SettingData) (t : List Row) (e : Edit) → refusal s t e ≡ None → All (λ p. p.1 ≡ false) (tests s t e (after s t e))

-- if no test of a list holds, then the list gives no refusal
abbrev pub NothingIsTold : Type 0
NothingIsTold = (ps : List (Refusal × Bool)) → All (λ p. p.1 ≡ false) ps → first_refusal ps ≡ None

-- if the first of two lists of tests gives no refusal, then both lists together give the same result as the second list
abbrev pub GroupPasses : Type 0
GroupPasses = (ps qs : List (Refusal × Bool)) → first_refusal ps ≡ None → first_refusal (ps ++ qs) ≡ first_refusal qs

-- if the first of two lists of tests gives a refusal, then both lists together give the same refusal
abbrev pub GroupRefuses : Type 0
GroupRefuses = (ps qs : List (Refusal × Bool)) (r : Refusal) → first_refusal ps ≡ Some r → first_refusal (ps ++ qs) ≡ Some r
