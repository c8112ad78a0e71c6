use Rattle.std.proofs.Common.{◌≡◌, ◌≤◌, ◌+◌, ◌-◌, ◌++◌, drop, length}
use Rattle.std.specs.Prelude.{flat_map}
use Rattle.crush_ceph.specs.Commands.{command_line, cut}
use Rattle.crush_ceph.proofs.text.push_commands.Given as goal

abbrev pub invariant-commands : goal.invariant-commands
invariant-commands l = record {
  lines : l.text.items ++ flat_map command_line (cut (drop l.from l.steps)) ≡ l.fn.text.items ++ flat_map command_line (cut l.steps);
  count : l.count + length (cut (drop l.from l.steps)) ≡ length (cut l.steps);
  few : l.count ≤ l.from;
  bound : l.from ≤ length l.steps;
}

abbrev pub decreases-commands : goal.decreases-commands
decreases-commands l = length l.steps - l.from
