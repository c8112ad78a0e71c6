-- The edits of a legal history that changed the map lead to the table after the history's calls.
use Rattle.std.proofs.Common.{◌≡◌, ℕ, ◌==◌, Bool, true, false, List, [], ◌∷◌, cond, refl, sym, ap, ◌∙◌}
use Rattle.crush_model.specs.Table.{Row}
use Rattle.crush_edits.specs.declared.edit.Edit.{Edit}
use Rattle.crush_edits.specs.declared.refusal.Dones.{Dones}
use Rattle.crush_edits.specs.Setting.{SettingData}
use Rattle.crush_edits.specs.Answer.{Answer, refused, done}
use Rattle.crush_edits.specs.Edit.{edit}
use Rattle.crush_edits.specs.Batch.{BatchAnswer, batch_refused, batch_done, and_then, batch, batch_from, no_dones, with_done}
use Rattle.crush_history.specs.declared.call.Call.{Call}
use Rattle.crush_history.specs.declared.call.Call.TheVariants.{One, Batch, Guarded}
use Rattle.crush_history.specs.History.{Counted, EntryData, IsLegalBehind, batch_outcome, call_outcome, counted_after, edit_outcome, guarded_outcome, is_change, later, untouched}
use Rattle.crush_history.proofs.Unchanged.{no_change_keeps}
use Rattle.crush_ceph.specs.ForCeph.{table_after_edit}
use Rattle.crush_reasons.specs.Replay.{changing_edits, edits_of, history_edits, table_after_edits}
use Rattle.crush_reasons.specs.LawReplay.{LeadsToTableAfter}
use Rattle.crush_reasons.proofs.Replays.{table-append}

-- A BATCH that succeeded leads to the same table as its edits, applied one after the other
behind_batch : (s : SettingData) (es : List Edit) (d e : Dones) (t u : List Row) → batch_from s es d t ≡ batch_done e u → table_after_edits s t es ≡ u
unfolding table_after_edits
behind_batch s [] d e t u is = cc
behind_batch s (x ∷ es) d e t u is = at (edit s t x) (λ changed made v. behind_batch s es (with_done d changed made) e v u) refl is
  where
    at : (a : Answer) → ((changed : Bool) (made : ℕ) (v : List Row) → batch_from s es (with_done d changed made) v ≡ batch_done e u → table_after_edits s v es ≡ u)
        → edit s t x ≡ a → and_then d a (batch_from s es) ≡ batch_done e u → table_after_edits s (table_after_edit s t x) es ≡ u
    at (refused r) others answers ends = absurd cc
    at (done changed made v) others answers ends = ap (λ (a : Answer). table_after_edits s (edit_outcome t a).table es) answers ∙ others changed made v ends

behind_outcome : (s : SettingData) (t : List Row) (es : List Edit) (a : BatchAnswer) → batch s t es ≡ a → is_change (batch_outcome t a).reply ≡ true → table_after_edits s t es ≡ (batch_outcome t a).table
behind_outcome s t es (batch_refused index r) answers changes = absurd cc
behind_outcome s t es (batch_done d u) answers changes = behind_batch s es no_dones d t u answers

behind_guarded : (s : SettingData) (t : List Row) (n : ℕ) (es : List Edit) (fresh : Bool) → is_change (guarded_outcome fresh t n (batch s t es)).reply ≡ true → table_after_edits s t es ≡ (guarded_outcome fresh t n (batch s t es)).table
behind_guarded s t n es true changes = behind_outcome s t es (batch s t es) refl changes
behind_guarded s t n es false changes = absurd cc

-- A CALL that changed the map leads to the same table as its edits
behind_changing : (s : SettingData) (t : List Row) (n : ℕ) (c : Call) → is_change (call_outcome s t n c).reply ≡ true → table_after_edits s t (edits_of c) ≡ (call_outcome s t n c).table
unfolding table_after_edits
behind_changing s t n (One e) changes = refl
behind_changing s t n (Batch es) changes = behind_outcome s t es (batch s t es) refl changes
behind_changing s t n (Guarded seen es) changes = behind_guarded s t n es (seen == n) changes

-- the same for any call: a call that changed nothing has no edits here
behind_call : (s : SettingData) (t : List Row) (n : ℕ) (c : Call) (changed : Bool) → is_change (call_outcome s t n c).reply ≡ changed → table_after_edits s t (cond changed (edits_of c) []) ≡ (call_outcome s t n c).table
unfolding table_after_edits
behind_call s t n c true is = behind_changing s t n c is
behind_call s t n c false is = sym (no_change_keeps s t n c is)

-- A HISTORY leads to the same table as its edits that changed the map
behind_history : (s : SettingData) (q : Counted) (h : List EntryData) → IsLegalBehind s q h → table_after_edits s q.table (history_edits h) ≡ (counted_after s q h).table
unfolding table_after_edits counted_after IsLegalBehind
behind_history s q [] legal = refl
behind_history s q (e ∷ h) legal =
    let first = behind_call s q.table q.count e.call (is_change e.reply) (ap is_change (sym legal.0)) in
    table-append s q.table (changing_edits e) (history_edits h)
    ∙ ap (λ (t : List Row). table_after_edits s t (history_edits h)) first
    ∙ behind_history s (later s q e) h legal.1

pub leads_to_table_after : LeadsToTableAfter
leads_to_table_after s t h legal = behind_history s (untouched t) h legal
