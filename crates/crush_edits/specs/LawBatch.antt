-- Laws about batches.
use Rattle.std.specs.Prelude.{◌≡◌, ℕ, ◌<◌, ◌≤◌, List, length}
use Rattle.crush_model.specs.Table.{Row}
use Rattle.crush_edits.specs.declared.refusal.Refusal.{Refusal}
use Rattle.crush_edits.specs.declared.refusal.Dones.{Dones}
use Rattle.crush_edits.specs.declared.edit.Edit.{Edit}
use Rattle.crush_edits.specs.Setting.{SettingData}
use Rattle.crush_edits.specs.Batch.{batch_refused, batch_done, batch}

-- if a batch isn't refused, its result has the number of all its edits. The result also has the number of edits that changed the table, which is at most the number of all edits
abbrev pub BatchCounts : Type 0
BatchCounts = (s : SettingData) (t u : List Row) (es : List Edit) (d : Dones) → batch s t es ≡ batch_done d u → (d.edits ≡ length es) × (d.changed ≤ length es)

-- the index of the refused edit is less than the number of edits in the batch
abbrev pub BatchStops : Type 0
BatchStops = (s : SettingData) (t : List Row) (es : List Edit) (index : ℕ) (r : Refusal) → batch s t es ≡ batch_refused index r → index < length es
