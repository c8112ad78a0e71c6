use Rattle.std.proofs.Common.{◌∙◌, ap}
use Rattle.std.specs.Prelude.{flat_map}
use Rattle.crush_compare.specs.Comparison.{pair_entries}
use Rattle.crush_since.specs.Changes.{has_some}
use Rattle.crush_since.specs.PairLines.{pair_line}
use Rattle.crush_since.proofs.LineLaws.{lines_of_ids}
use Rattle.crush_since.proofs.since.pairs.is_different.Goals as goal

pub returns : goal.returns
returns g c = λ t u ids are.
    let both = c.args.both.now in
    let s = both.old.map.now.setting in
    let p = both.new.map.now.setting in
    c.has_difference.ensures
    ∙ ap has_some (ap (flat_map (λ x. pair_line s p (pair_entries both x))) c.as_slice.ensures.value ∙ lines_of_ids (pair_entries both) s p t u both.pairs.items ids are)
