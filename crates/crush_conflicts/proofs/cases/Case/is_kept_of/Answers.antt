use Rattle.std.proofs.Common.{ap, ◌∙◌}
use Rattle.std.specs.Option.{option_map}
use Rattle.crush_items.specs.SeenItem.{seen_data}
use Rattle.crush_conflicts.specs.Aspects.{is_some_aspect, of_first_alone}
use Rattle.crush_conflicts.specs.Differences.{differences}
use Rattle.crush_conflicts.proofs.cases.Case.is_kept_of.Goals as goal

pub returns : goal.returns
returns g c = λ t stands lost.
    let missing = c.differences-missing.ensures t stands ∙ ap (λ o. differences t o (option_map seen_data c.args.self.now.after)) c.seen-item.ensures in
    c.is_some.ensures ∙ ap is_some_aspect (c.without.ensures ∙ (λ j. of_first_alone (c.told_of-told.ensures t stands lost j) (missing j)))
