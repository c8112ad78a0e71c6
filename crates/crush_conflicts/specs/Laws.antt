-- What follows if the text of the lost changes is empty or has no line.
use Rattle.std.specs.Prelude.{◌≡◌, ℕ, ◌==◌, false, List, [], None, All}
use Rattle.std.specs.List.{count_by}
use Rattle.crush_model.specs.Table.{Row}
use Rattle.crush_edits.specs.Setting.{SettingData}
use Rattle.crush_items.specs.Tree.{WalkStepData, tree_rows}
use Rattle.crush_conflicts.specs.Aspects.{is_some_aspect}
use Rattle.crush_conflicts.specs.Cases.{CaseData, lost_of}
use Rattle.crush_conflicts.specs.Conflicts.{AreConflicts, OperatorData, new_case, old_case}
use Rattle.crush_conflicts.specs.NewItems.{each_once}

-- no operator has lost a change of the item c
abbrev pub NothingLost : List Row → CaseData → Type 0
NothingLost t c = All (λ x. is_some_aspect (lost_of t c x) ≡ false) c.alone

-- NO LOSS: no operator has lost a change of an item of the table t, which is the table before the run, or of a new item that has one of these names. The table z is the table after the run
abbrev pub NoLoss : List Row → List OperatorData → List Row → List (List ℕ) → Type 0
NoLoss t os z names =
    All (λ (step : WalkStepData). NothingLost t (old_case t os z step)) (tree_rows t) × All (λ (n : List ℕ). NothingLost t (new_case t os z n)) (each_once None names)

-- NO LINE, NO LOSS: if the text of the lost changes is empty, then no change is lost
abbrev pub NoLineNoLoss : Type 0
NoLineNoLoss = (s : SettingData) (t : List Row) (os : List OperatorData) (z : List Row) (c : AreConflicts s t os z []) → NoLoss t os z c.names

-- COUNT 0, NO LOSS: if the text of the lost changes has no line feed (the byte 10), then no change is lost
abbrev pub CountZeroNoLoss : Type 0
CountZeroNoLoss =
    (s : SettingData) (t : List Row) (os : List OperatorData) (z : List Row) (text : List ℕ) (c : AreConflicts s t os z text)
    → count_by (λ b. b == 10) text ≡ 0 → NoLoss t os z c.names
