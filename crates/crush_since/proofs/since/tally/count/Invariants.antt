use Rattle.std.proofs.Common.{◌≡◌, take}
use Rattle.crush_compare.specs.Comparison.{pair_entries}
use Rattle.crush_since.specs.PairLines.{pairs_tally}
use Rattle.crush_since.proofs.TallyLaws.{AtMost}
use Rattle.crush_since.proofs.since.tally.count.Given as goal

-- the counts are those of the pairs visited so far
abbrev pub invariant-loop-pair : goal.invariant-loop-pair
invariant-loop-pair g l = record {
  most : AtMost l.pair-index l.tally;
  counts : l.tally ≡ pairs_tally (pair_entries l.both) (take l.pair-index l.pairs);
}
