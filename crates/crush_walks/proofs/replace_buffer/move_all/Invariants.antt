use Rattle.std.proofs.Common.{◌≡◌, ◌+◌, ◌≤◌, ◌++◌, vec_capacity, vec_len}
use Rattle.std.specs.Vec.Iter.{drain_items, drain_len, DrainKeeps}
use Rattle.crush_walks.proofs.replace_buffer.move_all.Given as goal

abbrev pub invariant-loop-node : goal.invariant-loop-node
invariant-loop-node g l = record {
  can_next : (goal.iterator-loop-node g).can_next l.node-iterator;
  is_finite : (goal.iterator-loop-node g).is_finite l.node-iterator;
  keeps : DrainKeeps l.initial.node-iterator l.node-iterator;
  all : l.to.items ++ drain_items l.node-iterator ≡ l.initial.to.items ++ drain_items l.initial.node-iterator;
  fits : vec_len l.to + drain_len l.node-iterator ≤ vec_capacity l.to;
  memory : vec_capacity l.to ≡ vec_capacity l.initial.to;
}
