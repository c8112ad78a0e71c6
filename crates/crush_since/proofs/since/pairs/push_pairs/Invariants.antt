use Rattle.std.proofs.Common.{◌≡◌, ◌++◌, take}
use Rattle.std.specs.Prelude.{flat_map}
use Rattle.crush_compare.specs.Comparison.{pair_entries}
use Rattle.crush_since.specs.PairLines.{pair_line}
use Rattle.crush_since.proofs.since.pairs.push_pairs.Given as goal

-- the lines appended so far are those of the pairs visited so far
abbrev pub invariant-loop-pair : goal.invariant-loop-pair
invariant-loop-pair g l = l.out.items ≡ l.fn.out.items ++ flat_map (λ x. pair_line l.both.old.map.now.setting l.both.new.map.now.setting (pair_entries l.both x)) (take l.pair-index l.pairs)
