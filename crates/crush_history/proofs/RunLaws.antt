-- A run keeps the table lawful, and the setting still fits the table (`Keeps`).
use Rattle.std.proofs.Common.{◌≡◌, ℕ, ◌+◌, ◌==◌, Bool, true, false, List, [], ◌∷◌, Option, Some, None, refl}
use Rattle.std.proofs.lemmas.List.Elements.{All-nil, All-cons, All-head, All-tail, All-append}
use Rattle.std.specs.Prelude.{All}
use Rattle.crush_model.specs.Table.{Row}
use Rattle.crush_edits.specs.declared.edit.Edit.{Edit}
use Rattle.crush_edits.specs.declared.refusal.Refusal.{Refusal}
use Rattle.crush_edits.specs.Setting.{SettingData}
use Rattle.crush_edits.specs.Answer.{answer}
use Rattle.crush_edits.specs.Edit.{after, refusal}
use Rattle.crush_edits.specs.Batch.{BatchAnswer, batch_refused, batch_done, batch}
use Rattle.crush_edits.specs.LawEdit.{IsEdit, Keeps}
use Rattle.crush_edits.proofs.Edits.{edit_keeps, batch_keeps}
use Rattle.crush_history.specs.declared.call.Call.{Call}
use Rattle.crush_history.specs.declared.call.Call.TheVariants.{One, Batch, Guarded}
use Rattle.crush_history.specs.Script.{ScriptData}
use Rattle.crush_history.specs.History.{EntryData, Counted, untouched, later, counted_after, edit_outcome, batch_outcome, guarded_outcome, entry_on, turn, turns_from}
use Rattle.crush_history.specs.LawRun.{IsCall, CallKeeps, HistoryKeeps, TurnsKeep}

-- after an edit, refused or not, `Keeps` is still true of the table
edit_outcome_keeps : (s : SettingData) (t : List Row) (e : Edit) (o : Option Refusal) → refusal s t e ≡ o → Keeps s t → IsEdit e → Keeps s (edit_outcome t (answer o t (after s t e))).table
edit_outcome_keeps s t e None is keeps form = edit_keeps s t e keeps form is
edit_outcome_keeps s t e (Some r) is keeps form = keeps

batch_outcome_keeps : (s : SettingData) (t : List Row) (es : List Edit) (a : BatchAnswer) → batch s t es ≡ a → Keeps s t → All IsEdit es → Keeps s (batch_outcome t a).table
batch_outcome_keeps s t es (batch_refused index r) is keeps forms = keeps
batch_outcome_keeps s t es (batch_done d u) is keeps forms = batch_keeps s t u es d keeps forms is

-- after a guarded batch, stale or not, `Keeps` is still true of the table
guarded_outcome_keeps : (s : SettingData) (t : List Row) (n : ℕ) (es : List Edit) (fresh : Bool) → Keeps s t → All IsEdit es → Keeps s (guarded_outcome fresh t n (batch s t es)).table
guarded_outcome_keeps s t n es true keeps forms = batch_outcome_keeps s t es (batch s t es) refl keeps forms
guarded_outcome_keeps s t n es false keeps forms = keeps

pub call_keeps : CallKeeps
call_keeps s t n (One e) keeps form = edit_outcome_keeps s t e (refusal s t e) refl keeps form
call_keeps s t n (Batch es) keeps forms = batch_outcome_keeps s t es (batch s t es) refl keeps forms
call_keeps s t n (Guarded seen es) keeps forms = guarded_outcome_keeps s t n es (seen == n) keeps forms

entries_keep : (s : SettingData) (q : Counted) (h : List EntryData) → Keeps s q.table → All (λ (e : EntryData). IsCall e.call) h → Keeps s (counted_after s q h).table
unfolding counted_after
entries_keep s q [] keeps forms = keeps
entries_keep s q (e ∷ h) keeps forms =
    let is_call = λ (x : EntryData). IsCall x.call in
    entries_keep s (later s q e) h (call_keeps s q.table q.count e.call keeps (All-head is_call e h forms)) (All-tail is_call e h forms)

pub history_keeps : HistoryKeeps
history_keeps s t h keeps forms = entries_keep s (untouched t) h keeps forms

-- what is true of all calls of the scripts is true of the calls in the scripts' entries
turn_calls : (P : Call → Type 0) (s : SettingData) (q : Counted) (k : ℕ) (calls : List Call) → All P calls → All (λ (e : EntryData). P e.call) (turn s q k calls)
unfolding turn
turn_calls P s q k [] all = All-nil (λ (e : EntryData). P e.call)
turn_calls P s q k (c ∷ cs) all =
    let u : Counted = later s q (entry_on s q k c) in
    All-cons (λ (e : EntryData). P e.call) _ (turn s u k cs) (All-head P c cs all) (turn_calls P s u k cs (All-tail P c cs all))

pub turns_calls : (P : Call → Type 0) (s : SettingData) (q : Counted) (k : ℕ) (scripts : List ScriptData) → All (λ (x : ScriptData). All P x.calls) scripts → All (λ (e : EntryData). P e.call) (turns_from s q k scripts)
unfolding turns_from
turns_calls P s q k [] all = All-nil (λ (e : EntryData). P e.call)
turns_calls P s q k (x ∷ xs) all =
    let has_calls = λ (y : ScriptData). All P y.calls in
    let u : Counted = counted_after s q (turn s q k x.calls) in
    All-append (λ (e : EntryData). P e.call) (turn s q k x.calls) (turns_from s u (k + 1) xs) (turn_calls P s q k x.calls (All-head has_calls x xs all)) (turns_calls P s u (k + 1) xs (All-tail has_calls x xs all))

pub turns_keep : TurnsKeep
turns_keep s t scripts keeps forms = history_keeps s t (turns_from s (untouched t) 0 scripts) keeps (turns_calls IsCall s (untouched t) 0 scripts forms)
