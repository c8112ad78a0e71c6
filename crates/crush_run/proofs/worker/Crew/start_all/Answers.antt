use Rattle.std.proofs.Common.{◌≡◌, ◌∙◌, ℕ, ◌<◌, ◌+◌, [], length, vec_len, ap, arith, slice_index_or}
use Rattle.crush_editor.specs.Seat.{SeatData, seat_data}
use Rattle.crush_history.specs.declared.script.Script.{Script}
use Rattle.crush_run.specs.declared.worker.Task.{Task}
use Rattle.crush_run.specs.declared.worker.Finished.{Finished}
use Rattle.std.specs.declared.thread.PromisedHandle.{PromisedHandle}
use Rattle.crush_run.proofs.Lists.{dropped, pushed}
use Rattle.crush_run.proofs.worker.Crew.start_all.Goals as goal

pub start-requires-after_bounds : goal.start-requires-after_bounds
start-requires-after_bounds g c κs within =
    let i = c.loop-seat.invariant in
    let s = c.in-Some.ensures.steps in
    let i1 = i.1 in let s1 = s.1 in let ok = c.args.seats.ok in
    let n = vec_len c.loop-seat.handles in
    ap (λ (x : SeatData). x.slips) ((dropped c.args.seats.items _ _ c.in-Some.seat (seat_data 0 [] []) n i.0 s.0 (omega arith)).1 ∙ c.requires.fresh n (omega arith))

pub loop-seat-preserved : goal.loop-seat-preserved
loop-seat-preserved g c =
    let i = c.loop-seat.invariant in
    let s = c.in-Some.ensures.steps in
    let t = c.in-Some-next.ensures.cases in
    let i1 = i.1 in let i3 = i.3 in let i4 = i.4 in let s1 = s.1 in let t1 = t.1 in
    let ok = c.args.seats.ok in let room = c.args.scripts.ok in let many = c.requires.count in
    let n = vec_len c.loop-seat.handles in
    let seats = dropped c.args.seats.items _ _ c.in-Some.seat (seat_data 0 [] []) n i.0 s.0 (omega arith) in
    let xs = c.args.scripts.items in
    let x = c.in-Some-next.script in
    let p = c.push_reserved.ensures in
    let pl = p.len in
    let hk = c.loop-seat.handles.ok in
    let h = c.in-Some-start.handle in
    let P : ℕ → PromisedHandle (Finished g.row.N.Denot) Task → Type 0 = λ k y. (e : Script) → (y.promise.operator ≡ k) × (y.promise.calls.value.items ≡ (slice_index_or xs k e).calls.items) in
    let mine = ap (λ (y : SeatData). y.operator) (seats.1 ∙ c.requires.fresh n (omega arith)) in
    let here : P n h = λ e. (c.in-Some-start.ensures.0 ∙ mine, c.in-Some-start.ensures.1 ∙ ap (λ (y : Script). y.calls.items) (dropped xs _ _ x e n i.2 t.0 (omega arith)).1) in
    let each : (k : ℕ) (d : PromisedHandle (Finished g.row.N.Denot) Task) → k < n → P k (slice_index_or c.loop-seat.handles.items k d) = λ k d less e. i.5 k d e less in
    let len : length c.loop-seat.handles.items ≡ n = omega arith in
    let next : vec_len c.push_reserved.new.self ≡ n + 1 = omega arith in
    (rw next seats.0, omega arith, rw next (dropped xs _ _ x x n i.2 t.0 (omega arith)).0, omega arith, rw p.capacity i4, λ k d e less. rw p.items (pushed P c.loop-seat.handles.items h n len each here k d (omega arith) e))

pub loop-seat-preserved-in-Some-start : goal.loop-seat-preserved-in-Some-start
loop-seat-preserved-in-Some-start g c =
    let i = c.loop-seat.invariant in
    let s = c.in-Some.ensures.steps in
    let t = c.in-Some-next.ensures.cases in
    let i1 = i.1 in let i3 = i.3 in let i4 = i.4 in let s1 = s.1 in let t1 = t.1 in
    let ok = c.args.seats.ok in let room = c.args.scripts.ok in let many = c.requires.count in
    let n = vec_len c.loop-seat.handles in
    let seats = dropped c.args.seats.items _ _ c.in-Some.seat (seat_data 0 [] []) n i.0 s.0 (omega arith) in
    let xs = c.args.scripts.items in
    let x = c.in-Some-next.script in
    let p = c.push_reserved.ensures in
    let pl = p.len in
    let hk = c.loop-seat.handles.ok in
    let h = c.in-Some-start.handle in
    let P : ℕ → PromisedHandle (Finished g.row.N.Denot) Task → Type 0 = λ k y. (e : Script) → (y.promise.operator ≡ k) × (y.promise.calls.value.items ≡ (slice_index_or xs k e).calls.items) in
    let mine = ap (λ (y : SeatData). y.operator) (seats.1 ∙ c.requires.fresh n (omega arith)) in
    let here : P n h = λ e. (c.in-Some-start.ensures.0 ∙ mine, c.in-Some-start.ensures.1 ∙ ap (λ (y : Script). y.calls.items) (dropped xs _ _ x e n i.2 t.0 (omega arith)).1) in
    let each : (k : ℕ) (d : PromisedHandle (Finished g.row.N.Denot) Task) → k < n → P k (slice_index_or c.loop-seat.handles.items k d) = λ k d less e. i.5 k d e less in
    let len : length c.loop-seat.handles.items ≡ n = omega arith in
    let next : vec_len c.push_reserved.new.self ≡ n + 1 = omega arith in
    (rw next seats.0, omega arith, rw next (dropped xs _ _ x x n i.2 t.0 (omega arith)).0, omega arith, rw p.capacity i4, λ k d e less. rw p.items (pushed P c.loop-seat.handles.items h n len each here k d (omega arith) e))

pub returns-clause-each : goal.returns-clause-each
returns-clause-each g c = λ k d e less. c.loop-seat.invariant.5 k d e less
