-- The lost changes of a run with several scripts.
use Rattle.std.specs.Prelude.{◌≡◌, ℕ, ◌==◌, Bool, true, false, ◌&&◌, List, [], length, nat_lt}
use Rattle.std.specs.List.{count_by}
use Rattle.crush_model.specs.Table.{Row}
use Rattle.crush_edits.specs.Setting.{SettingData}
use Rattle.crush_history.specs.History.{EntryData}
use Rattle.crush_conflicts.specs.Conflicts.{AreConflicts, operators_from}
use Rattle.crush_input.specs.Lost.{LostData}

-- whether a run looks for lost changes: its options ask for this (`conflicts`), and it has at least two scripts. `names` are the names of the scripts
abbrev pub looks_for_conflicts : Bool → List (List ℕ) → Bool
looks_for_conflicts conflicts names = conflicts && nat_lt 1 (length names)

-- the number of lines of a text, which is the number of its line feeds
abbrev pub line_count : List ℕ → ℕ
line_count text = count_by (λ b. b == 10) text

-- LOST: if the run looks for lost changes, then `lost` has a line for each item with a lost change, and the number of these lines. A change is lost if the calls of one operator in the history h make the change when only these calls are applied to the table t, and the table z after the run doesn't have the change. If the run doesn't look for lost changes, then `lost` has no lines.
pub record AreLost (conflicts : Bool) (s : SettingData) (t : List Row) (names : List (List ℕ)) (h : List EntryData) (z : List Row) (lost : LostData) : Type 0 where
  pub lines : looks_for_conflicts conflicts names ≡ true → AreConflicts s t (operators_from s t h 0 names) z lost.lines
  pub none : looks_for_conflicts conflicts names ≡ false → lost.lines ≡ []
  pub count : lost.count ≡ line_count lost.lines
