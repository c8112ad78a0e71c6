use Rattle.std.proofs.Common.{◌≡◌, ℕ, ◌<◌, ◌+◌, length, vec_len, drop, slice_index_or, None}
use Rattle.std.specs.Vec.Iter.{into_iter_items, into_iter_len}
use Rattle.crush_run.proofs.at_once.gather.Given as goal

abbrev pub invariant-loop-done : goal.invariant-loop-done
invariant-loop-done g l =
    let n = vec_len l.seats in
    (into_iter_items l.done-iterator ≡ drop n l.fn.finished.items)
    × (into_iter_len l.done-iterator + n ≡ length l.fn.finished.items)
    × ((k : ℕ) (d : _) (e : _) → k < n → (slice_index_or l.seats.items k d ≡ (slice_index_or l.fn.finished.items k e).seat) × ((slice_index_or l.fn.finished.items k e).fault ≡ None))
