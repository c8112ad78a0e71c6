-- The table that results if only the script of one operator runs.
use Rattle.std.specs.Prelude.{ℕ, ◌==◌, List, [], ◌∷◌, if◌then◌else◌}
use Rattle.crush_model.specs.Table.{Row}
use Rattle.crush_edits.specs.Setting.{SettingData}
use Rattle.crush_history.specs.declared.call.Call.{Call}
use Rattle.crush_history.specs.declared.call.Call.TheVariants.{One, Batch, Guarded}
use Rattle.crush_history.specs.History.{EntryData, call_outcome, of_operator}
use Rattle.crush_history.specs.Turns.{calls_of}

-- the number of earlier changes with which a call is applied. For a guarded batch, this is the number in its guard, so that the batch is applied as if it had no guard. For the other calls, the number doesn't matter
abbrev pub expected_changes : Call → ℕ
expected_changes (One e) = 0
expected_changes (Batch es) = 0
expected_changes (Guarded seen es) = seen

abbrev pub table_after_call : SettingData → List Row → Call → List Row
table_after_call s t c = (call_outcome s t (expected_changes c) c).table

-- the table after an entry of a history, if only the calls of operator k are applied
abbrev pub table_after_entry : SettingData → List Row → ℕ → EntryData → List Row
table_after_entry s t k e = if e.operator == k then table_after_call s t e.call else t

-- ALONE: the table after these calls have been applied to the table t, one after the other. A refused call changes nothing
unfoldable pub table_alone : SettingData → List Row → List Call → List Row
table_alone s t [] = t
table_alone s t (c ∷ cs) = table_alone s (table_after_call s t c) cs

-- the table of operator k: the table that results if only those calls of the history h that are calls of this operator are applied to the table t
abbrev pub table_of_operator : SettingData → List Row → List EntryData → ℕ → List Row
table_of_operator s t h k = table_alone s t (calls_of (of_operator k h))
