use Rattle.std.proofs.Common.{ap, arith, ◌∙◌}
use Rattle.std.proofs.lemmas.List.{take_all}
use Rattle.crush_compare.specs.Comparison.{pair_items}
use Rattle.crush_since.specs.CountedByName.{pairs_tally}
use Rattle.crush_since.proofs.CountLaws.{at_most_plus, tally_at}
use Rattle.crush_since.proofs.names.since.counting.tally_of.Goals as goal

pub loop-pair-preserved : goal.loop-pair-preserved
loop-pair-preserved g c = record {
  most = at_most_plus _ _ _ _ _ c.loop-pair.invariant.most c.count_one-tally.ensures;
  counts = tally_at (pair_items c.args.both.now) c.args.pairs.now c.loop-pair.pair-index _ _ _ c.loop-pair-test.true c.loop-pair.invariant.counts c.count_one-tally.ensures;
}

pub returns : goal.returns
returns g c = c.loop-pair.invariant.counts ∙ ap (pairs_tally (pair_items c.args.both.now)) (take_all c.loop-pair.pair-index c.args.pairs.now (omega (arith, c.loop-pair-test.false)))
