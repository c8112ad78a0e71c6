use Rattle.std.proofs.Common.{◌≡◌, false, take}
use Rattle.std.specs.Prelude.{flat_map}
use Rattle.crush_compare.specs.Comparison.{pair_entries}
use Rattle.crush_since.specs.Changes.{has_some}
use Rattle.crush_since.specs.PairLines.{pair_line}
use Rattle.crush_since.proofs.since.pairs.has_difference.Given as goal

-- no pair visited so far has a line
abbrev pub invariant-loop-pair : goal.invariant-loop-pair
invariant-loop-pair g l = has_some (flat_map (λ x. pair_line l.both.old.map.now.setting l.both.new.map.now.setting (pair_entries l.both x)) (take l.pair-index l.pairs)) ≡ false
