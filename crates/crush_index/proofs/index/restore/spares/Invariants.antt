use Rattle.std.proofs.Common.{◌+◌, ◌-◌, ◌≤◌, length}
use Rattle.crush_index.proofs.index.restore.spares.Given as goal

abbrev pub invariant-loop-global : goal.invariant-loop-global
invariant-loop-global l = length l.spares.items ≤ l.count + 1

abbrev pub decreases-loop-global : goal.decreases-loop-global
decreases-loop-global l = l.count + 1 - length l.spares.items
