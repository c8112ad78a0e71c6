-- What a batch of edits does to the table: each edit is applied to the table after the edits before it.
use Rattle.std.specs.Prelude.{ℕ, ◌+◌, List, [], ◌∷◌, Bool, true, false}
use Rattle.crush_model.specs.Table.{Row}
use Rattle.crush_edits.specs.declared.refusal.Refusal.{Refusal}
use Rattle.crush_edits.specs.declared.refusal.Dones.{Dones}
use Rattle.crush_edits.specs.declared.edit.Edit.{Edit}
use Rattle.crush_edits.specs.Setting.{SettingData}
use Rattle.crush_edits.specs.Answer.{Answer, refused, done}
use Rattle.crush_edits.specs.Edit.{edit}

-- the result of a batch. `batch_refused` has the index, from 0, of the first edit that is refused, and this edit's refusal. `batch_done` has counts that say what the edits did, and the table after all edits
pub data BatchAnswer : Type 0 where
  batch_refused : ℕ → Refusal → BatchAnswer
  batch_done : Dones → List Row → BatchAnswer

-- the counts before the first edit, which are all 0
abbrev pub no_dones : Dones
no_dones = record { edits = 0; changed = 0; made = 0 }

-- 1 for an edit that changed the table, 0 for any other edit
abbrev pub one_changed : Bool → ℕ
one_changed true = 1
one_changed false = 0

-- the counts d after one more edit. The other arguments say whether this edit changed the table, and how many buckets it created
abbrev pub with_done : Dones → Bool → ℕ → Dones
with_done d changed made = record { edits = d.edits + 1; changed = d.changed + one_changed changed; made = d.made + made }

-- the result of a batch, given the counts d before one of its edits, and the result of this edit. If the edit is refused, the batch is refused, with the edit's index, which is the number of edits before it. Otherwise the function `others` gives the result of the remaining edits
abbrev pub and_then : Dones → Answer → (Dones → List Row → BatchAnswer) → BatchAnswer
and_then d (refused r) others = batch_refused d.edits r
and_then d (done changed made t) others = others (with_done d changed made) t

-- the result of a batch. The edits before es are already applied: their counts are d, and they have led to the table t. The edits es remain
abbrev pub batch_from : SettingData → List Edit → Dones → List Row → BatchAnswer
batch_from s [] d t = batch_done d t
batch_from s (e ∷ es) d t = and_then d (edit s t e) (batch_from s es)

-- THE BATCH: the result of applying the edits es, one after the other, to the table t
abbrev pub batch : SettingData → List Row → List Edit → BatchAnswer
batch s t es = batch_from s es no_dones t
