use Rattle.std.proofs.Common.{◌∙◌, ap, sym}
use Rattle.std.specs.Prelude.{is_some}
use Rattle.crush_compare.specs.Comparison.{pair_entries}
use Rattle.crush_compare.specs.IdPairs.{pair_difference}
use Rattle.crush_compare.specs.declared.difference.Report.TheVariants.{Changes}
use Rattle.crush_since.proofs.LineLaws.{pair_told}
use Rattle.crush_since.proofs.since.pairs.differs.Goals as goal

pub returns : goal.returns
returns g c =
    let both = c.args.both.now in
    let e = pair_entries both c.args.pair.now in
    c.is_some.ensures ∙ ap is_some c.difference-found.ensures ∙ (λ k. is_some (pair_difference (c.requires k) Changes both.old.map.now.setting both.new.map.now.setting e))
    ∙ sym (pair_told both.old.map.now.setting both.new.map.now.setting e)
