use Rattle.std.proofs.Common.{◌≡◌, ◌+◌, drop, length, take}
use Rattle.std.specs.Vec.Iter.{into_iter_items, into_iter_len}
use Rattle.crush_history.specs.Turns.{calls_of}
use Rattle.crush_run.proofs.worker.Crew.work.Given as goal

abbrev pub invariant-loop-call : goal.invariant-loop-call
invariant-loop-call g l =
    (l.seat.operator ≡ l.fn.seat.operator)
    × (calls_of l.seat.slips ≡ take l.number l.fn.calls.items)
    × (into_iter_items l.call-iterator ≡ drop l.number l.fn.calls.items)
    × (into_iter_len l.call-iterator + l.number ≡ length l.fn.calls.items)
