use Rattle.std.proofs.Common.{◌≡◌, ◌<◌, ◌+◌, ◌-◌, drop, length}
use Rattle.crush_ceph.proofs.Cutting.{run}
use Rattle.crush_ceph.proofs.commands.first_command.Given as goal

abbrev pub invariant-steps : goal.invariant-steps
invariant-steps l = record {
  within : l.last < length l.steps;
  run : run l.steps ≡ l.last + run (drop l.last l.steps);
}

abbrev pub decreases-steps : goal.decreases-steps
decreases-steps l = length l.steps - l.last
