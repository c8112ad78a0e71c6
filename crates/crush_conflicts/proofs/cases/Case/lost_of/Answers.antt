use Rattle.std.proofs.Common.{ap, ◌∙◌}
use Rattle.std.specs.Option.{option_map}
use Rattle.crush_items.specs.SeenItem.{seen_data}
use Rattle.crush_conflicts.specs.Aspects.{of_both}
use Rattle.crush_conflicts.specs.Differences.{differences}
use Rattle.crush_conflicts.proofs.cases.Case.lost_of.Goals as goal

pub returns : goal.returns
returns g c = λ t stands.
    let missing = c.differences-missing.ensures t stands ∙ ap (λ o. differences t o (option_map seen_data c.args.self.now.after)) c.seen-item.ensures in
    c.and.ensures ∙ (λ j. of_both (c.changes_of-changes.ensures t stands j) (missing j))
