use Rattle.std.proofs.Common.{◌≡◌, take}
use Rattle.std.specs.Prelude.{filter}
use Rattle.crush_compare.specs.Within.{has_item_within}
use Rattle.crush_compare.proofs.below.pairs_within.Given as goal

-- `within` has those of the pairs visited so far that have an item in a run
abbrev pub invariant-loop-pair : goal.invariant-loop-pair
invariant-loop-pair l = l.within.items ≡ filter (has_item_within l.old l.new) (take l.pair-index l.pairs)
