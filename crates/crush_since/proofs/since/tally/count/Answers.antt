use Rattle.std.proofs.Common.{arith, ap, ◌∙◌}
use Rattle.std.proofs.lemmas.List.{take_all}
use Rattle.crush_compare.specs.Comparison.{pair_entries}
use Rattle.crush_since.specs.PairLines.{pairs_tally}
use Rattle.crush_since.proofs.LineLaws.{pairs_more, read_again}
use Rattle.crush_since.proofs.TallyLaws.{at_most_more}
use Rattle.crush_since.proofs.since.tally.count.Goals as goal

pub loop-pair-preserved : goal.loop-pair-preserved
loop-pair-preserved g c = record {
  most = at_most_more _ _ _ _ _ c.loop-pair.invariant.most c.count_one-tally.ensures;
  counts = pairs_more (pair_entries c.args.both.now) c.args.pairs.now c.loop-pair.pair-index _ _ _ c.loop-pair-test.true (read_again c.args.pairs.now c.loop-pair.pair-index _ c.loop-pair-test.true) c.loop-pair.invariant.counts c.count_one-tally.ensures;
}

pub returns : goal.returns
returns g c = c.loop-pair.invariant.counts ∙ ap (pairs_tally (pair_entries c.args.both.now)) (take_all c.loop-pair.pair-index c.args.pairs.now (omega (arith, c.loop-pair-test.false)))
