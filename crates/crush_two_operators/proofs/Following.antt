-- Proves that if each call of a legal history is for a step of a plan, then the calls that changed the map are the steps of the plan, in order.
use Rattle.std.proofs.Common.{◌≡◌, ℕ, zero, suc, ◌+◌, ◌<◌, ◌≤◌, ◌==◌, Bool, true, false, cond, List, [], ◌∷◌, ◌++◌, Option, Some, None, length, map, filter, drop, slice_get, slice_index_or, refl, sym, ap, subst, ◌∙◌, arith, eqb-true, eq-eqb, drop-cons}
use Rattle.std.specs.List.{All}
use Rattle.std.proofs.lemmas.List.{append-nil}
use Rattle.std.proofs.lemmas.List.Elements.{All-nil, All-cons, All-head, All-rest, All-same, All-push}
use Rattle.std.proofs.lemmas.Option.{slice_get_within, get_or_from_slice_get}
use Rattle.std.proofs.Math.Seq.{drop-length}
use mathlib.Core.List.{IsPrefix}
use Rattle.crush_model.specs.Table.{Row}
use Rattle.crush_edits.specs.Setting.{SettingData}
use Rattle.crush_edits.specs.declared.edit.Edit.{Edit}
use Rattle.crush_edits.specs.Batch.{BatchAnswer, batch}
use Rattle.crush_history.specs.declared.call.Call.{Call}
use Rattle.crush_history.specs.declared.call.Reply.{Reply}
use Rattle.crush_history.specs.History.{EntryData, AnsweredData, Counted, untouched, later, changes, change_of, is_change, call_outcome, guarded_outcome, IsLegalBehind, IsLegal, of_operator}
use Rattle.crush_history.proofs.Histories.{changes-append}
use Rattle.crush_map.specs.MapData.{MapData}
use Rattle.crush_model.specs.Forest.{rows_of}
use Rattle.crush_editor.specs.History.{slip}
use Rattle.crush_editor.specs.Seat.{SeatData, seat_data, slips_of, Answered, IsHistoryOfSeats}
use Rattle.crush_two_operators.specs.Plan.{step, steps_from, changing, IsStep, IsFollowed, HasFollowed}
use Rattle.crush_two_operators.proofs.Order.{each_of_two}

-- the edits from an index on are the edit at this index and the edits after it
cut_at : (plan : List Edit) (n : ℕ) (e : Edit) → slice_get plan n ≡ Some e → drop n plan ≡ e ∷ drop (suc n) plan
cut_at plan n e is = drop-cons plan n e (slice_get_within plan n e is) ∙ ap (λ (x : Edit). x ∷ drop (suc n) plan) (get_or_from_slice_get plan n e e is)

-- a guarded call that changed the map wasn't stale, so the number of changes before it was the number that the call names
in_time : (fresh : Bool) (t : List Row) (n : ℕ) (a : BatchAnswer) (r : Reply) → r ≡ (guarded_outcome fresh t n a).reply → is_change r ≡ true → fresh ≡ true
in_time true t n a r told changed = refl
in_time false t n a r told changed = let stale : is_change r ≡ false = ap is_change told in absurd cc

one_or_none : (r : Reply) (b : Bool) → is_change r ≡ b → change_of r ≡ cond b 1 0
one_or_none r b is = ap (λ (x : Bool). cond x 1 0) is

no_change : (e : EntryData) (h : List EntryData) → is_change e.reply ≡ false → changing (e ∷ h) ≡ changing h
no_change e h same = rw same refl

a_change : (e : EntryData) (h : List EntryData) → is_change e.reply ≡ true → changing (e ∷ h) ≡ e.call ∷ changing h
a_change e h changed = rw changed refl

changes_cons : (e : EntryData) (h : List EntryData) → changes (e ∷ h) ≡ change_of e.reply + changes h
unfolding changes
changes_cons e h = refl

module _ (s : SettingData) (plan : List Edit) where
  -- the calls for the steps from a given number on
  abbrev pub left : ℕ → List Call
  left n = steps_from n (drop n plan)

  -- if n changes came before a history, then the calls by which it changed the map, followed by the steps that are left, are the steps from number n on; and there are no more changes than steps
  abbrev pub Fills : ℕ → List EntryData → Type 0
  Fills n h = (changing h ++ left (n + changes h) ≡ left n) × (n + changes h ≤ length plan)

  left_at : (n : ℕ) (x : Edit) → slice_get plan n ≡ Some x → left n ≡ step n x ∷ left (n + 1)
  left_at n x is =
      let next : suc n ≡ n + 1 = omega arith in
      ap (steps_from n) (cut_at plan n x is) ∙ ap (λ (k : ℕ). step n x ∷ steps_from (n + 1) (drop k plan)) next

  fills_cons : (q : Counted) (e : EntryData) (h : List EntryData) (b : Bool) → is_change e.reply ≡ b
      → e.reply ≡ (call_outcome s q.table q.count e.call).reply → IsStep plan e.call → q.count ≤ length plan
      → (q.count + change_of e.reply ≤ length plan → Fills (q.count + change_of e.reply) h) → Fills q.count (e ∷ h)
  fills_cons q e h false same told asks few rest =
      let none : change_of e.reply ≡ 0 = one_or_none e.reply false same in
      let here : q.count + change_of e.reply ≡ q.count = omega (arith, none) in
      let more = rest (omega (arith, none, few)) in
      let many : q.count + changes (e ∷ h) ≡ q.count + change_of e.reply + changes h = omega (arith, changes_cons e h) in
      let last = more.1 in (
        (λ i. no_change e h same i ++ left (many i)) ∙ more.0 ∙ ap left here,
        omega (arith, many, last),
      )
  fills_cons q e h true changed told asks few rest =
      let n = asks.0 in
      let x = asks.1 in
      let asked = told ∙ ap (λ (c : Call). (call_outcome s q.table q.count c).reply) asks.3 in
      let now : n ≡ q.count = eqb-true n q.count (in_time (n == q.count) q.table q.count (batch s q.table (x ∷ [])) e.reply asked changed) in
      let found : slice_get plan q.count ≡ Some x = subst (λ (k : ℕ). slice_get plan k ≡ Some x) now asks.2 in
      let within = slice_get_within plan q.count x found in
      let one : change_of e.reply ≡ 1 = one_or_none e.reply true changed in
      let here : q.count + change_of e.reply ≡ q.count + 1 = omega (arith, one) in
      let more = rest (omega (arith, one, within)) in
      let many : q.count + changes (e ∷ h) ≡ q.count + change_of e.reply + changes h = omega (arith, changes_cons e h) in
      let call : e.call ≡ step q.count x = asks.3 ∙ ap (λ (k : ℕ). step k x) now in
      let last = more.1 in (
        (λ i. a_change e h changed i ++ left (many i)) ∙ (λ i. call i ∷ more.0 i) ∙ ap (λ (k : ℕ). step q.count x ∷ left k) here ∙ sym (left_at q.count x found),
        omega (arith, many, last),
      )

  fills : (q : Counted) (h : List EntryData) → IsLegalBehind s q h → All (λ (e : EntryData). IsStep plan e.call) h → q.count ≤ length plan → Fills q.count h
  unfolding IsLegalBehind changes
  fills q [] legal asks few = let none : q.count + 0 ≡ q.count = omega arith in (ap left none, omega (arith, few))
  fills q (e ∷ h) legal asks few =
      fills_cons q e h (is_change e.reply) refl legal.0 (All-head (λ (x : EntryData). IsStep plan x.call) e h asks) few (λ still. fills (later s q e) h legal.1 (All-rest (λ (x : EntryData). IsStep plan x.call) e h (e ∷ h) refl asks) still)

-- FOLLOWED: if a legal history has only calls for steps of the plan, and at least as many changes as the plan has steps, then its changes are exactly the steps
pub followed : (s : SettingData) (t : List Row) (plan : List Edit) (h : List EntryData) → IsLegal s t h → All (λ (e : EntryData). IsStep plan e.call) h → length plan ≤ changes h → IsFollowed plan h
followed s t plan h legal asks done =
    let filled = fills s plan (untouched t) h legal asks (omega arith) in
    let most = filled.1 in
    let all : 0 + changes h ≡ length plan = omega (arith, most, done) in
    let none : left s plan (0 + changes h) ≡ [] = ap (left s plan) all ∙ ap (steps_from (length plan)) (drop-length plan) in
    record { calls = asks; steps = sym (append-nil (changing h)) ∙ ap (λ (x : List Call). changing h ++ x) (sym none) ∙ filled.0 }

-- if something holds for the calls of each operator, then it holds for all calls
module _ (P : Call → Type 0) where
  own_first : (e : EntryData) (h : List EntryData) → of_operator e.operator (e ∷ h) ≡ record { call = e.call; reply = e.reply } ∷ of_operator e.operator h
  own_first e h = let own : (e.operator == e.operator) ≡ true = eq-eqb e.operator e.operator refl in rw own refl

  behind_first : (k : ℕ) (e : EntryData) (h : List EntryData) (b : Bool) → (e.operator == k) ≡ b → All (λ (a : AnsweredData). P a.call) (of_operator k (e ∷ h)) → All (λ (a : AnsweredData). P a.call) (of_operator k h)
  behind_first k e h false other each = let is : of_operator k (e ∷ h) ≡ of_operator k h = rw other refl in All-same (λ (a : AnsweredData). P a.call) _ _ (sym is) each
  behind_first k e h true own each = let is : of_operator k (e ∷ h) ≡ record { call = e.call; reply = e.reply } ∷ of_operator k h = rw own refl in All-rest (λ (a : AnsweredData). P a.call) _ _ _ is each

  pub all_calls : (h : List EntryData) → ((k : ℕ) → All (λ (a : AnsweredData). P a.call) (of_operator k h)) → All (λ (e : EntryData). P e.call) h
  all_calls [] each = All-nil (λ (e : EntryData). P e.call)
  all_calls (e ∷ h) each =
      All-cons (λ (x : EntryData). P x.call) e h
      (All-head (λ (a : AnsweredData). P a.call) _ _ (All-same (λ (a : AnsweredData). P a.call) _ _ (sym (own_first e h)) (each e.operator)))
      (all_calls h (λ k. behind_first k e h (e.operator == k) refl (each k)))

-- a prefix of a history has at most as many changes as the history
pub changes_begin : (v h : List EntryData) → IsPrefix v h → changes v ≤ changes h
changes_begin v h p = let more = changes-append v p.0 in let whole = ap changes p.1 in omega (arith, more, whole)

-- if two seats have followed the plan, then the history at the close has followed the plan
pub followed_by_two : (o m : MapData) (plan : List Edit) (h : List EntryData) (one two : SeatData) → HasFollowed (seat_data 0 [] []) plan one → HasFollowed (seat_data 1 [] []) plan two → IsHistoryOfSeats o m h (one ∷ two ∷ []) → IsFollowed plan h
followed_by_two o m plan h one two first second closed =
    let P : Call → Type 0 = IsStep plan in
    let each = each_of_two P one two h closed.slips (first.calls (All-nil (λ (a : AnsweredData). P a.call))) (second.calls (All-nil (λ (a : AnsweredData). P a.call))) in
    let begins : IsPrefix one.seen h = closed.seen 0 (omega arith) in
    let seen = changes_begin one.seen h begins in
    let done = first.done in
    followed o.setting (rows_of o.forest) plan h closed.legal (all_calls P h each) (omega (arith, seen, done))

-- if all calls of a seat are for steps of the plan, this still holds after one more call for a step
pub asked_more : (o : MapData) (plan : List Edit) (v w : SeatData) (c : Call) (r : Reply) (n : ℕ) (e : Edit) → slice_get plan n ≡ Some e → c ≡ step n e → Answered o v c r w
    → All (λ (a : AnsweredData). IsStep plan a.call) v.slips → All (λ (a : AnsweredData). IsStep plan a.call) w.slips
asked_more o plan v w c r n e found is answered before =
    let asks : IsStep plan c = (n, e, found, is) in
    All-same (λ (a : AnsweredData). IsStep plan a.call) _ _ answered.slips (All-push (λ (a : AnsweredData). IsStep plan a.call) v.slips (slip c r) before asks)
