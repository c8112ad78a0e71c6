use Rattle.std.proofs.Common.{◌≡◌, ◌≤◌, length, reverse, drop}
use Rattle.crush_since.specs.ClassChanges.{staying}
use Rattle.crush_since.specs.ClassChangesSeen.{row_counts, row_depth}
use Rattle.crush_since.proofs.changes.of_class.backward.Given as goal

-- the rows that stay of those from this position on
abbrev pub invariant-loop-at : goal.invariant-loop-at
invariant-loop-at l = (l.at ≤ length l.rows) × (reverse l.kept.items ≡ staying (row_counts l.weights) row_depth (drop l.at l.rows))

abbrev pub decreases-loop-at : goal.decreases-loop-at
decreases-loop-at l = l.at
