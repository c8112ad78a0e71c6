use Rattle.std.proofs.Common.{arith}
use Rattle.crush_units.proofs.Weights.{power_some, power_18}
use Rattle.crush_units.proofs.weight.ten_to.Goals as goal

pub returns-clause-some : goal.returns-clause-some
returns-clause-some c = rw c.loop.invariant (power_some c.loop.counter)

pub returns-clause-small : goal.returns-clause-small
returns-clause-small c = rw c.loop.invariant (power_18 c.loop.counter (omega arith))
