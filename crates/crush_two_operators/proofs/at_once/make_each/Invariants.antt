use Rattle.std.proofs.Common.{take}
use Rattle.crush_two_operators.specs.Calls.{HasMade}
use Rattle.crush_two_operators.proofs.at_once.make_each.Given as goal

-- the seat has made exactly the calls that the loop has visited so far
abbrev pub invariant-loop-call : goal.invariant-loop-call
invariant-loop-call g l = HasMade l.fn.seat (take l.call-index l.calls) l.seat
