use Rattle.std.proofs.Common.{◌+◌, ◌-◌, ◌≤◌, length, drop}
use Rattle.crush_compare.proofs.Merging.{ArePositionsTo}
use Rattle.crush_compare.specs.Pairs.{Rise, keys}
use Rattle.crush_compare.proofs.by_id.pairs_by_key.Given as goal

abbrev pub invariant-loop-before : goal.invariant-loop-before
invariant-loop-before l = record {
  paired : Rise (keys l.old) → Rise (keys l.new) → ArePositionsTo l.old l.new (drop l.before l.old) (drop l.after l.new) l.pairs.items;
  old_within : l.before ≤ length l.old;
  new_within : l.after ≤ length l.new;
}

abbrev pub decreases-loop-before : goal.decreases-loop-before
decreases-loop-before l = (length l.old + length l.new) - (l.before + l.after)
