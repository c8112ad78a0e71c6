-- What a call does to a table, and which histories of calls are legal.
use Rattle.std.specs.Prelude.{◌≡◌, ℕ, ◌+◌, ◌==◌, List, [], ◌∷◌, ◌++◌, Bool, true, false, if◌then◌else◌, map, filter, nat_lt}
use Rattle.crush_model.specs.Table.{Row}
use Rattle.crush_edits.specs.Setting.{SettingData}
use Rattle.crush_edits.specs.Answer.{Answer, refused, done}
use Rattle.crush_edits.specs.Edit.{edit}
use Rattle.crush_edits.specs.Batch.{BatchAnswer, batch_refused, batch_done, batch}
use Rattle.crush_history.specs.declared.call.Call.{Call}
use Rattle.crush_history.specs.declared.call.Call.TheVariants.{One, Batch, Guarded}
use Rattle.crush_history.specs.declared.call.Reply.{Reply}
use Rattle.crush_history.specs.declared.entry.Entry.{Entry}
use Rattle.crush_history.specs.declared.entry.Slip.{Slip}
use Rattle.crush_history.specs.declared.call.Reply.TheVariants.{Done, Dones, Refused, BatchRefused, Stale}
use Rattle.crush_history.specs.Script.{ScriptData}

-- the outcome of a call on a table: the reply, and the table after the call
pub record Outcome : Type 0 where
  pub reply : Reply
  pub table : List Row

-- the outcome of an edit, computed from the table before the edit and from the model's answer (`Answer`), which is a new table or a refusal; a refused edit leaves the table as it is
abbrev pub edit_outcome : List Row → Answer → Outcome
edit_outcome t (refused r) = record { reply = Refused r; table = t }
edit_outcome t (done changed made u) = record { reply = Done (record { changed = changed; made = made }); table = u }

-- the outcome of a batch, computed from the table before the batch and from the model's answer (`BatchAnswer`), which is a new table or a refusal; a refused batch leaves the table as it is
abbrev pub batch_outcome : List Row → BatchAnswer → Outcome
batch_outcome t (batch_refused index r) = record { reply = BatchRefused index r; table = t }
batch_outcome t (batch_done d u) = record { reply = Dones d; table = u }

-- the outcome of a guarded batch. The first argument says whether the batch's `seen` is n, the number of changes so far. If it is true, the outcome is the outcome of the batch without the guard.
-- If it is false, the reply is `Stale n`, whatever the edits are, and the table is unchanged
abbrev pub guarded_outcome : Bool → List Row → ℕ → BatchAnswer → Outcome
guarded_outcome true t n a = batch_outcome t a
guarded_outcome false t n a = record { reply = Stale n; table = t }

-- ANSWER: the outcome of a call on the table t, if n earlier calls have changed the map
abbrev pub call_outcome : SettingData → List Row → ℕ → Call → Outcome
call_outcome s t n (One e) = edit_outcome t (edit s t e)
call_outcome s t n (Batch es) = batch_outcome t (batch s t es)
call_outcome s t n (Guarded seen es) = guarded_outcome (seen == n) t n (batch s t es)

-- an entry of a history: the operator's index from 0, its call, and the reply
abbrev pub EntryData : Type 0
EntryData = Entry

-- whether a reply says that the map changed: the edit changed it, or at least one edit of the batch did
abbrev pub is_change : Reply → Bool
is_change (Done d) = d.changed
is_change (Dones d) = nat_lt 0 d.changed
is_change (Refused r) = false
is_change (BatchRefused index r) = false
is_change (Stale n) = false

-- what a reply adds to the number of changes: 1 if it says that the map changed, and otherwise 0
abbrev pub change_of : Reply → ℕ
change_of r = if is_change r then 1 else 0

-- how many entries of a history have a reply which says that the map changed
unfoldable pub changes : List EntryData → ℕ
changes [] = 0
changes (e ∷ h) = change_of e.reply + changes h

-- a table, and the number of changes that led to it
pub record Counted : Type 0 where
  pub table : List Row
  pub count : ℕ

-- the table before the first call: the number of changes is 0
abbrev pub untouched : List Row → Counted
untouched t = record { table = t; count = 0 }

-- the table t, together with the number of changes in the history h
abbrev pub behind : List Row → List EntryData → Counted
behind t h = record { table = t; count = changes h }

-- the table and the number of changes after one more entry: the table after the entry's call, and one more change if the entry's reply says that the map changed
abbrev pub later : SettingData → Counted → EntryData → Counted
later s q e = record { table = (call_outcome s q.table q.count e.call).table; count = q.count + change_of e.reply }

-- the table and the number of changes after all entries of a history, which begins with the table and the number of changes of q
unfoldable pub counted_after : SettingData → Counted → List EntryData → Counted
counted_after s q [] = q
counted_after s q (e ∷ h) = counted_after s (later s q e) h

-- the table after the calls of a history that begins with the table t and with no changes
abbrev pub table_after : SettingData → List Row → List EntryData → List Row
table_after s t h = (counted_after s (untouched t) h).table

-- a history that begins with the table and the number of changes of q is legal: each entry's reply is the reply that `call_outcome` gives for the entry's call, with the table and the number of changes after the earlier entries
unfoldable pub IsLegalBehind : SettingData → Counted → List EntryData → Type 0
IsLegalBehind s q [] = Unit {0}
IsLegalBehind s q (e ∷ h) = (e.reply ≡ (call_outcome s q.table q.count e.call).reply) × IsLegalBehind s (later s q e) h

-- LEGAL: a history that begins with the table t and with no changes is legal
abbrev pub IsLegal : SettingData → List Row → List EntryData → Type 0
IsLegal s t h = IsLegalBehind s (untouched t) h

-- an answered call: the call and its reply, without its operator
abbrev pub AnsweredData : Type 0
AnsweredData = Slip

-- the answered calls of operator k in a history, in order
abbrev pub of_operator : ℕ → List EntryData → List AnsweredData
of_operator k h = map (λ (e : EntryData). record { call = e.call; reply = e.reply }) (filter (λ (e : EntryData). e.operator == k) h)

-- the entry that results if operator k makes the call c when the table and the number of changes are those of q
abbrev pub entry_on : SettingData → Counted → ℕ → Call → EntryData
entry_on s q k c = record { operator = k; call = c; reply = (call_outcome s q.table q.count c).reply }

-- the entries that result if operator k makes the given calls one after the other, beginning with the table and the number of changes of q
unfoldable pub turn : SettingData → Counted → ℕ → List Call → List EntryData
turn s q k [] = []
turn s q k (c ∷ cs) = entry_on s q k c ∷ turn s (later s q (entry_on s q k c)) k cs

-- the entries that result if scripts run one after the other, beginning with the table and the number of changes of q. Operator k has the first script, operator k + 1 has the next script, and so on
unfoldable pub turns_from : SettingData → Counted → ℕ → List ScriptData → List EntryData
turns_from s q k [] = []
turns_from s q k (x ∷ xs) = turn s q k x.calls ++ turns_from s (counted_after s q (turn s q k x.calls)) (k + 1) xs

-- TURNS: the history that results if the scripts run one after the other, beginning with the table t and with no changes. Operator 0 has the first script
abbrev pub turns : SettingData → List Row → List ScriptData → List EntryData
turns s t scripts = turns_from s (untouched t) 0 scripts
