-- What a seat knows after a call.
use Rattle.std.proofs.Common.{◌≡◌, ℕ, ◌+◌, ◌≤◌, ◌==◌, Bool, true, false, Option, Some, None, List, [], ◌∷◌, ◌++◌, refl, sym, ap, ◌∙◌, subst, arith, eqb-true}
use Rattle.crush_model.specs.Table.{Row}
use Rattle.crush_model.specs.Forest.{rows_of}
use mathlib.Core.List.{IsPrefix}
use Rattle.crush_history.specs.declared.call.Call.{Call}
use Rattle.crush_history.specs.declared.call.Call.TheVariants.{One, Batch, Guarded}
use Rattle.crush_history.specs.declared.call.Reply.{Reply}
use Rattle.crush_history.specs.declared.call.Reply.TheVariants.{Stale}
use Rattle.crush_history.proofs.Histories.{IsLegal-front, last_told}
use Rattle.crush_history.proofs.EntryLines.{changes-push}
use Rattle.crush_history.proofs.Unchanged.{same_count_same_table, stale_tells}
use Rattle.crush_edits.specs.Batch.{BatchAnswer, batch}
use Rattle.crush_history.specs.History.{EntryData, AnsweredData, of_operator, changes, change_of, guarded_outcome, call_outcome, table_after, IsLegal}
use Rattle.crush_map.specs.MapData.{MapData}
use Rattle.crush_editor.specs.History.{entry, slip, IsLegalFrom, table_from, weight_from}
use Rattle.crush_editor.specs.Book.{BookData}
use Rattle.crush_editor.proofs.Parts.{of-append, of-push_hit}
use Rattle.crush_gauge.proofs.Prefixes.{prefix_trans, prefix_whole, prefix_length}
use Rattle.crush_gauge.specs.declared.limits.TheConstants.{MOST_CHANGES}
use Rattle.crush_gauge.specs.declared.view.View.{View}
use Rattle.crush_gauge.specs.Rule.{Reads, Learns}
use Rattle.crush_editor.specs.Seat.{IsSubsequence}
use Rattle.atomic_table.specs.Seated.{TableId}
use Rattle.crush_gauge.specs.Held.{Held, held}
use Rattle.crush_editor.specs.Seat.{reads, seen_of, seat_data, guard_of, is_stale, IsSeat, Answered, Guards, Sees}
use Rattle.crush_editor.proofs.Counting.{stands_more, stands_push}

-- two lists that are prefixes of each other are equal
pub prefix_same : {A : Type 0} (xs ys : List A) → IsPrefix xs ys → IsPrefix ys xs → xs ≡ ys
prefix_same xs ys p q = prefix_whole xs ys p (prefix_length ys xs q)

pub stands_later : (k : ℕ) (slips : List AnsweredData) (seen now : List EntryData) → IsSubsequence slips (of_operator k seen) → IsPrefix seen now → IsSubsequence slips (of_operator k now)
stands_later k slips seen now stands p =
    subst (λ h. IsSubsequence slips (of_operator k h)) p.1 (subst (IsSubsequence slips) (sym (of-append k seen p.0)) (stands_more slips (of_operator k seen) (of_operator k p.0) stands))

pub seat_later : (o : MapData) (k : ℕ) (slips : List AnsweredData) (seen now : List EntryData) → IsSeat o k slips seen → IsPrefix seen now → IsLegalFrom o now → IsSeat o k slips now
seat_later o k slips seen now seat p legal = record { below = seat.below; legal = legal; stands = stands_later k slips seen now seat.stands p }

pub seat_answered : (o : MapData) (k : ℕ) (slips : List AnsweredData) (seen h : List EntryData) (c : Call) (r : Reply) → IsSeat o k slips seen → IsPrefix seen h → IsLegalFrom o (h ++ entry k c r ∷ []) → IsSeat o k (slips ++ slip c r ∷ []) (h ++ entry k c r ∷ [])
seat_answered o k slips seen h c r seat p legal = record {
  below = seat.below;
  legal = legal;
  stands = subst (IsSubsequence (slips ++ slip c r ∷ [])) (sym (of-push_hit k h (entry k c r) refl)) (stands_push slips (of_operator k h) (slip c r) (stands_later k slips seen h seat.stands p));
}

pub answered : (o : MapData) (k : ℕ) (slips : List AnsweredData) (seen h : List EntryData) (c : Call) (r : Reply) → IsSeat o k slips seen → IsPrefix seen h → IsLegalFrom o (h ++ entry k c r ∷ []) → Answered o (seat_data k slips seen) c r (seat_data k (slips ++ slip c r ∷ []) (h ++ entry k c r ∷ []))
answered o k slips seen h c r seat p legal = record {
  operator = refl;
  slips = refl;
  begins = prefix_trans seen h (h ++ entry k c r ∷ []) p (entry k c r ∷ [], refl);
  ends = (h, p, refl);
  seat = seat_answered o k slips seen h c r seat p legal;
}

-- GUARDED: if a guarded batch isn't stale, it names the number of changes before it
not_stale : (fresh : Bool) (t : List Row) (n : ℕ) (a : BatchAnswer) (r : Reply) → r ≡ (guarded_outcome fresh t n a).reply → is_stale r ≡ false → fresh ≡ true
not_stale true t n a r told other = refl
not_stale false t n a r told other = let stale : is_stale r ≡ true = ap is_stale told in absurd cc

-- so the table before the batch is the table after the history that the seat had seen
made_of_seen : (o : MapData) (k : ℕ) (seen h : List EntryData) (c : Call) (r : Reply) → IsPrefix seen h → IsLegalFrom o (h ++ entry k c r ∷ []) → guard_of c ≡ Some (changes seen) → is_stale r ≡ false → table_from o h ≡ table_from o seen
made_of_seen o k seen h (One e) r p legal names other = absurd cc
made_of_seen o k seen h (Batch es) r p legal names other = absurd cc
made_of_seen o k seen h (Guarded n es) r p legal names other =
    let t : List Row = rows_of o.forest in
    let u : List Row = table_from o h in
    let told = last_told o.setting t h (entry k (Guarded n es) r) legal in
    let same : n ≡ changes h = eqb-true n (changes h) (not_stale (n == changes h) u (changes h) (batch o.setting u es) r told other) in
    let named : n ≡ changes seen = cc in
    let whole : IsLegal o.setting t (seen ++ p.0) = subst (IsLegal o.setting t) (sym p.1) (IsLegal-front o.setting _ h (entry k (Guarded n es) r ∷ []) legal) in
    let many : changes (seen ++ p.0) ≡ changes seen = ap changes p.1 ∙ sym same ∙ named in
    ap (table_after o.setting t) (sym p.1) ∙ same_count_same_table o.setting t seen p.0 whole many

-- the number in a stale reply is the number of changes in the history up to and including this call
stale_of_seen : (o : MapData) (k : ℕ) (h : List EntryData) (c : Call) (r : Reply) (n : ℕ) → IsLegalFrom o (h ++ entry k c r ∷ []) → r ≡ Stale n → changes (h ++ entry k c r ∷ []) ≡ n
stale_of_seen o k h c r n legal stale =
    let told = last_told o.setting (rows_of o.forest) h (entry k c r) legal in
    let many : changes h ≡ n = stale_tells o.setting (table_from o h) (changes h) c n (sym told ∙ stale) in
    let none : change_of r ≡ 0 = ap change_of stale in
    omega (arith, changes-push h (entry k c r), many, none)

pub guards : (o : MapData) (k : ℕ) (slips : List AnsweredData) (seen h : List EntryData) (c : Call) (r : Reply) → IsPrefix seen h → IsLegalFrom o (h ++ entry k c r ∷ []) → Guards o (seat_data k slips seen) c r (seat_data k (slips ++ slip c r ∷ []) (h ++ entry k c r ∷ []))
guards o k slips seen h c r p legal = record {
  fresh = λ names other. (h, refl, made_of_seen o k seen h c r p legal names other);
  stale = λ n is. stale_of_seen o k h c r n legal is;
}

pub missed : (o : MapData) (k : ℕ) (slips : List AnsweredData) (seen now : List EntryData) → IsSeat o k slips seen → IsPrefix seen now → IsLegalFrom o now → Sees o (seat_data k slips seen) (seat_data k slips now)
missed o k slips seen now seat p legal = record { operator = refl; slips = refl; begins = p; seat = seat_later o k slips seen now seat p legal }

-- what is true of a reader that has seen the whole history of the book
pub has_met : (z : TableId) (o : MapData) (seen : List EntryData) (b now : BookData) (r : Held MapData EntryData) → b.table ≡ z → b.opening ≡ o → now.history ≡ b.history → r ≡ held b.table (reads b.opening now.history) → IsPrefix seen b.history → IsLegalFrom b.opening now.history
    → (r.table ≡ z) × (r.view ≡ reads o (seen_of r.view)) × IsPrefix seen (seen_of r.view) × IsLegalFrom o (seen_of r.view)
has_met z o seen b now r tz oz same is pre legal =
    let h : r ≡ held z (reads o now.history) = is ∙ (λ i. held (tz i) (reads (oz i) now.history)) in
    subst (λ (x : Held MapData EntryData). (x.table ≡ z) × (x.view ≡ reads o (seen_of x.view)) × IsPrefix seen (seen_of x.view) × IsLegalFrom o (seen_of x.view)) (sym h)
    (refl, refl, subst (IsPrefix seen) (sym same) pre, subst (λ (x : MapData). IsLegalFrom x now.history) oz legal)

-- what is true of a seat that has seen the whole history of the book, after a call that was not answered
pub missed_all : (z : TableId) (o : MapData) (k : ℕ) (slips : List AnsweredData) (seen : List EntryData) (b now : BookData) (r : Held MapData EntryData) → b.table ≡ z → b.opening ≡ o → now.history ≡ b.history → r ≡ held b.table (reads b.opening now.history) → IsPrefix seen b.history → IsLegalFrom b.opening now.history → IsSeat o k slips seen
    → (r.table ≡ z) × (r.view ≡ reads o (seen_of r.view)) × IsSeat o k slips (seen_of r.view) × Sees o (seat_data k slips seen) (seat_data k slips (seen_of r.view))
missed_all z o k slips seen b now r tz oz same is pre legal seat =
    let m = has_met z o seen b now r tz oz same is pre legal in
    (m.0, m.1, seat_later o k slips seen (seen_of r.view) seat m.2 m.3, missed o k slips seen (seen_of r.view) seat m.2 m.3)

pub answered_all : (z : TableId) (o : MapData) (k : ℕ) (slips : List AnsweredData) (seen : List EntryData) (c : Call) (x : Reply) (b now : BookData) (r : Held MapData EntryData) → b.table ≡ z → b.opening ≡ o → now.history ≡ b.history ++ entry k c x ∷ [] → r ≡ held b.table (reads b.opening now.history) → IsPrefix seen b.history → IsLegalFrom b.opening now.history → IsSeat o k slips seen
    → (r.table ≡ z) × (r.view ≡ reads o (seen_of r.view)) × IsSeat o k (slips ++ slip c x ∷ []) (seen_of r.view) × Answered o (seat_data k slips seen) c x (seat_data k (slips ++ slip c x ∷ []) (seen_of r.view))
answered_all z o k slips seen c x b now r tz oz e is pre legal seat =
    let after' = b.history ++ entry k c x ∷ [] in
    let h : r ≡ held z (reads o after') = is ∙ (λ i. held (tz i) (reads (oz i) (e i))) in
    let l : IsLegalFrom o after' = subst (λ (y : MapData × List EntryData). IsLegalFrom y.0 y.1) (λ i. (oz i, e i)) legal in
    subst (λ (y : Held MapData EntryData). (y.table ≡ z) × (y.view ≡ reads o (seen_of y.view)) × IsSeat o k (slips ++ slip c x ∷ []) (seen_of y.view) × Answered o (seat_data k slips seen) c x (seat_data k (slips ++ slip c x ∷ []) (seen_of y.view))) (sym h)
    (refl, refl, seat_answered o k slips seen b.history c x seat pre l, answered o k slips seen b.history c x seat pre l)

pub guards_all : (z : TableId) (o : MapData) (k : ℕ) (slips : List AnsweredData) (seen : List EntryData) (c : Call) (x : Reply) (b now : BookData) (r : Held MapData EntryData) → b.table ≡ z → b.opening ≡ o → now.history ≡ b.history ++ entry k c x ∷ [] → r ≡ held b.table (reads b.opening now.history) → IsPrefix seen b.history → IsLegalFrom b.opening now.history
    → Guards o (seat_data k slips seen) c x (seat_data k (slips ++ slip c x ∷ []) (seen_of r.view))
guards_all z o k slips seen c x b now r tz oz e is pre legal =
    let after' = b.history ++ entry k c x ∷ [] in
    let h : r ≡ held z (reads o after') = is ∙ (λ i. held (tz i) (reads (oz i) (e i))) in
    let l : IsLegalFrom o after' = subst (λ (y : MapData × List EntryData). IsLegalFrom y.0 y.1) (λ i. (oz i, e i)) legal in
    subst (λ (y : Held MapData EntryData). Guards o (seat_data k slips seen) c x (seat_data k (slips ++ slip c x ∷ []) (seen_of y.view))) (sym h) (guards o k slips seen b.history c x pre l)

-- what is true of a seat that has seen more of the history without an answer
pub sees_more : (z : TableId) (o : MapData) (k : ℕ) (slips : List AnsweredData) (v w : Held MapData EntryData) → v.table ≡ z → IsSeat o k slips (seen_of v.view) → w.table ≡ v.table → (h : List EntryData) × (w.view ≡ reads o h) × IsPrefix (seen_of v.view) h × IsLegalFrom o h
    → (w.table ≡ z) × (w.view ≡ reads o (seen_of w.view)) × IsSeat o k slips (seen_of w.view) × Sees o (seat_data k slips (seen_of v.view)) (seat_data k slips (seen_of w.view))
sees_more z o k slips v w tz seat same now =
    let seen = seen_of v.view in
    let t = subst (λ (y : View MapData EntryData). (y ≡ reads o (seen_of y)) × IsSeat o k slips (seen_of y) × Sees o (seat_data k slips seen) (seat_data k slips (seen_of y))) (sym now.1)
    (refl, seat_later o k slips seen now.0 seat now.2 now.3, missed o k slips seen now.0 seat now.2 now.3) in
    (same ∙ tz, t.0, t.1, t.2)

pub after_reading : (o : MapData) (v w : View MapData EntryData) (c x : ℕ) → v ≡ reads o (seen_of v) → Reads IsLegalFrom (λ _. changes) weight_from v c x w → (h : List EntryData) × (w ≡ reads o h) × IsPrefix (seen_of v) h × IsLegalFrom o h
after_reading o v w c x is r =
    let t = subst (λ (y : View MapData EntryData). Reads IsLegalFrom (λ _. changes) weight_from y c x w) is r in (t.0, t.1, t.2, t.3.0)

-- the two numbers of a reading belong to the history that the seat has seen after the reading
pub tells_seen : (o : MapData) (v w : View MapData EntryData) (c x : ℕ) → v ≡ reads o (seen_of v) → Reads IsLegalFrom (λ _. changes) weight_from v c x w → (c ≡ changes (seen_of w)) × (x ≡ weight_from o (seen_of w))
tells_seen o v w c x is r =
    let t = subst (λ (y : View MapData EntryData). Reads IsLegalFrom (λ _. changes) weight_from y c x w) is r in
    let seen : seen_of w ≡ t.0 = ap seen_of t.1 in
    (t.4 ∙ ap changes (sym seen), t.5 ∙ ap (weight_from o) (sym seen))

pub tells_few : (o : MapData) (v w : View MapData EntryData) (c x : ℕ) → v ≡ reads o (seen_of v) → Reads IsLegalFrom (λ _. changes) weight_from v c x w → c ≤ MOST_CHANGES
tells_few o v w c x is r =
    let t = subst (λ (y : View MapData EntryData). Reads IsLegalFrom (λ _. changes) weight_from y c x w) is r in
    subst (λ (n : ℕ). n ≤ MOST_CHANGES) (sym t.4) t.3.1

pub after_learning : (o : MapData) (v j w : View MapData EntryData) → v ≡ reads o (seen_of v) → j ≡ reads o (seen_of j) → Learns IsLegalFrom (λ _. changes) weight_from v j w → (h : List EntryData) × (w ≡ reads o h) × IsPrefix (seen_of v) h × IsLegalFrom o h
after_learning o v j w is also l =
    let t = subst (λ (y : View MapData EntryData × View MapData EntryData). Learns IsLegalFrom (λ _. changes) weight_from y.0 y.1 w) (λ i. (is i, also i)) l in (t.0, t.1, t.4, t.3.0)

-- after a seat has learned a note, it has seen all that the note's seat had seen
pub note_is_seen : (o : MapData) (v j w : View MapData EntryData) → v ≡ reads o (seen_of v) → j ≡ reads o (seen_of j) → Learns IsLegalFrom (λ _. changes) weight_from v j w → IsPrefix (seen_of j) (seen_of w)
note_is_seen o v j w is also l =
    let t = subst (λ (y : View MapData EntryData × View MapData EntryData). Learns IsLegalFrom (λ _. changes) weight_from y.0 y.1 w) (λ i. (is i, also i)) l in
    subst (IsPrefix (seen_of j)) (sym (ap seen_of t.1)) t.5
