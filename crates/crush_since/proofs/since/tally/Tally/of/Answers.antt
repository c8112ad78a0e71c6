use Rattle.std.proofs.Common.{◌∙◌, ap}
use Rattle.crush_compare.specs.Comparison.{pair_entries}
use Rattle.crush_since.specs.PairLines.{pairs_tally}
use Rattle.crush_since.proofs.LineLaws.{tally_of_ids}
use Rattle.crush_since.proofs.since.tally.Tally.of.Goals as goal

pub returns : goal.returns
returns g c = λ t u ids are.
    let both = c.args.both.now in c.count.ensures ∙ ap (pairs_tally (pair_entries both)) c.as_slice.ensures.value ∙ tally_of_ids (pair_entries both) t u both.pairs.items ids are
