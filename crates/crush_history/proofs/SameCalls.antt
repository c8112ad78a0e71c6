-- `==` says of two batches, calls, entries, slips and scripts whether they are the same value.
use Rattle.std.proofs.Common.{◌≡◌, Bool, true, false, List, ap, subst, refl, rules}
use Rattle.std.specs.Bool.{Decides, beq}
use Rattle.std.specs.Cmp.Lexicographic.{pointwise_decides}
use Rattle.std.proofs.lemmas.Bool.{and_parts}
use Rattle.std.proofs.lemmas.Slice.Eq.{bytes_eq-Decides}
use Rattle.std.proofs.lemmas.Bool.Decides.{Decides-and, Decides-like, Decides-eqb}
use Rattle.crush_edits.specs.declared.edit.Edit.{Edit}
use Rattle.crush_edits.specs.declared.refusal.Refusal.{Refusal}
use Rattle.crush_edits.proofs.SameEdits.{same_edit-Decides}
use Rattle.crush_edits.specs.contracts.refusal.RefusalPartialEq.TheImpl as refusal
use Rattle.crush_history.specs.SameCalls.{same_call, same_entry, same_slip, same_script}
use Rattle.crush_history.specs.SameEdits.{same_edits}
use Rattle.crush_history.specs.Script.{ScriptData, script_data}
use Rattle.crush_history.specs.contracts.call.CallEq.TheImpl.Laws as call
use Rattle.crush_history.specs.contracts.call.ReplyEq.TheImpl.Laws as reply
use Rattle.crush_history.specs.contracts.call.ReplyPartialEq.TheImpl as replies
use Rattle.crush_history.specs.declared.call.Call.{Call}
use Rattle.crush_history.specs.declared.call.Call.TheVariants.{One, Batch, Guarded}
use Rattle.crush_history.specs.declared.call.Reply.{Reply}
use Rattle.crush_history.specs.declared.call.Reply.TheVariants.{Done, Dones, Refused, BatchRefused, Stale}
use Rattle.crush_history.specs.declared.entry.Entry.{Entry}
use Rattle.crush_history.specs.declared.entry.Slip.{Slip}
use Rattle.crush_history.specs.declared.script.Script.{Script}

pub same_edits-Decides : (b c : List Edit) → Decides (same_edits b c) (b ≡ c)
same_edits-Decides = pointwise_decides same_edit-Decides

call_told : (a b : Call) → same_call a b ≡ true → a ≡ b
call_told (One d) (One f) e = ap One ((same_edit-Decides d f).0 e)
call_told (One d) b e = absurd cc
call_told (Batch d) (Batch f) e = ap Batch ((same_edits-Decides d f).0 e)
call_told (Batch d) b e = absurd cc
call_told (Guarded n d) (Guarded m f) e = let p = and_parts _ _ e in λ i. Guarded ((Decides-eqb n m).0 p.0 i) ((same_edits-Decides d f).0 p.1 i)
call_told (Guarded n d) b e = absurd cc

pub same_call-Decides : (a b : Call) → Decides (same_call a b) (a ≡ b)
same_call-Decides a b = (call_told a b, λ e. subst (λ c. same_call a c ≡ true) e (call.laws-law.refl a))

flag_told : (a b : Bool) → beq a b ≡ true → a ≡ b
flag_told true true e = refl
flag_told true false e = absurd cc
flag_told false true e = absurd cc
flag_told false false e = refl

refusal_told : (r s : Refusal) → (refusal.ghosts).eq r s ≡ true → r ≡ s
refusal_told r s e = search rules

reply_told : (r s : Reply) → (replies.ghosts).eq r s ≡ true → r ≡ s
reply_told (Done d) (Done f) e = let p = and_parts _ _ e in λ i. Done (record { changed = flag_told d.changed f.changed p.0 i; made = (Decides-eqb d.made f.made).0 p.1 i })
reply_told (Done d) b e = absurd cc
reply_told (Dones d) (Dones f) e =
    let p = and_parts _ _ e in
    let q = and_parts _ _ p.1 in
    λ i. Dones (record { edits = (Decides-eqb d.edits f.edits).0 p.0 i; changed = (Decides-eqb d.changed f.changed).0 q.0 i; made = (Decides-eqb d.made f.made).0 q.1 i })
reply_told (Dones d) b e = absurd cc
reply_told (Refused d) (Refused f) e = ap Refused (refusal_told d f e)
reply_told (Refused d) b e = absurd cc
reply_told (BatchRefused n d) (BatchRefused m f) e = let p = and_parts _ _ e in λ i. BatchRefused ((Decides-eqb n m).0 p.0 i) (refusal_told d f p.1 i)
reply_told (BatchRefused n d) b e = absurd cc
reply_told (Stale n) (Stale m) e = ap Stale ((Decides-eqb n m).0 e)
reply_told (Stale n) b e = absurd cc

reply-Decides : (r s : Reply) → Decides ((replies.ghosts).eq r s) (r ≡ s)
reply-Decides r s = (reply_told r s, λ e. subst (λ t. (replies.ghosts).eq r t ≡ true) e (reply.laws-law.refl r))

pub same_slip-Decides : (a b : Slip) → Decides (same_slip a b) (a ≡ b)
same_slip-Decides a b = Decides-like _ (λ h i. record { call = h.0 i; reply = h.1 i }) (λ e. (ap (λ (s : Slip). s.call) e, ap (λ (s : Slip). s.reply) e))
    (Decides-and _ _ (same_call-Decides a.call b.call) (reply-Decides a.reply b.reply))

pub same_entry-Decides : (a b : Entry) → Decides (same_entry a b) (a ≡ b)
same_entry-Decides a b = Decides-like _ (λ h i. record { operator = h.0 i; call = h.1.0 i; reply = h.1.1 i }) (λ e. (ap (λ (s : Entry). s.operator) e, (ap (λ (s : Entry). s.call) e, ap (λ (s : Entry). s.reply) e)))
    (Decides-and _ _ (Decides-eqb a.operator b.operator) (Decides-and _ _ (same_call-Decides a.call b.call) (reply-Decides a.reply b.reply)))

pub same_script-Decides : (a b : Script) → Decides (same_script a b) (script_data a ≡ script_data b)
same_script-Decides a b = Decides-like _ (λ h i. record { name = h.0 i; calls = h.1 i }) (λ e. (ap (λ (s : ScriptData). s.name) e, ap (λ (s : ScriptData). s.calls) e))
    (Decides-and _ _ (bytes_eq-Decides a.name b.name) (pointwise_decides same_call-Decides a.calls.items b.calls.items))
