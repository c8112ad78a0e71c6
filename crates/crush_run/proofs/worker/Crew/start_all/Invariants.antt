use Rattle.std.proofs.Common.{◌≡◌, ℕ, ◌<◌, ◌+◌, length, vec_len, drop, slice_index_or, ◌≤◌, vec_capacity}
use Rattle.std.specs.Vec.Iter.{into_iter_items, into_iter_len}
use Rattle.crush_run.proofs.worker.Crew.start_all.Given as goal

abbrev pub invariant-loop-seat : goal.invariant-loop-seat
invariant-loop-seat g l =
    (into_iter_items l.seat-iterator ≡ drop (vec_len l.handles) l.fn.seats.items)
    × (into_iter_len l.seat-iterator + vec_len l.handles ≡ length l.fn.seats.items)
    × (into_iter_items l.rest ≡ drop (vec_len l.handles) l.fn.scripts.items)
    × (into_iter_len l.rest ≡ into_iter_len l.seat-iterator)
    × (length l.fn.scripts.items ≤ vec_capacity l.handles)
    × ((k : ℕ) (d : _) (e : _) → k < vec_len l.handles → ((slice_index_or l.handles.items k d).promise.operator ≡ k) × ((slice_index_or l.handles.items k d).promise.calls.value.items ≡ (slice_index_or l.fn.scripts.items k e).calls.items))
