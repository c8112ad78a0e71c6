-- Which results of a call that applies a batch are right, given what the batch does to the table.
use Rattle.std.specs.Prelude.{◌≡◌, ℕ, ◌*◌, ◌≤◌, List}
use Rattle.crush_model.specs.Table.{Row}
use Rattle.crush_model.specs.Forest.{ForestData}
use Rattle.crush_model.specs.Stands.{Stands}
use Rattle.crush_edits.specs.declared.refusal.Dones.{Dones}
use Rattle.crush_edits.specs.declared.edit.Edit.{Edit}
use Rattle.crush_edits.specs.Setting.{SettingData}
use Rattle.crush_edits.specs.Batch.{BatchAnswer, batch_done, batch, batch_from}

-- the batch isn't refused, d has the counts of what the batch did, and `stands` is true of the table after the batch
abbrev pub IsBatchDone : (List Row → Type 0) → BatchAnswer → Dones → Type 0
IsBatchDone stands a d = (u : List Row) × (a ≡ batch_done d u) × stands u

-- some of the edits es have been applied to the hierarchy f, which resulted in the hierarchy g and the counts d; the edits in `left` have not been applied yet. For every table t that f represents, g represents a table for which the edits in `left` give what all edits es give for t
abbrev pub IsBegun : SettingData → List Edit → ForestData → List Edit → Dones → ForestData → Type 0
IsBegun s es f left d g = (t : List Row) → Stands f t → (u : List Row) × (batch s t es ≡ batch_from s left d u) × Stands g u

-- the counts of k edits: k edits have been applied, at most k of them changed the table, and the number of created buckets is at most 65535 times k
pub record AreDone (k : ℕ) (d : Dones) : Type 0 where
  pub edits : d.edits ≡ k
  pub changed : d.changed ≤ k
  pub made : d.made ≤ k * 65535
