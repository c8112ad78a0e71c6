use Rattle.std.proofs.Common.{ap, ◌∙◌}
use Rattle.std.specs.Option.{option_map}
use Rattle.crush_items.specs.SeenItem.{seen_data}
use Rattle.crush_conflicts.specs.Aspects.{of_both}
use Rattle.crush_conflicts.specs.Cases.{is_gone, told_of, with_presence}
use Rattle.crush_conflicts.proofs.cases.Case.told_of.Goals as goal

pub returns : goal.returns
unfolding told_of
returns g c = λ t stands lost.
    let gone = c.is_gone.ensures ∙ ap (is_gone (option_map seen_data c.args.self.now.before)) c.seen-item.ensures in
    let both = c.and.ensures ∙ (λ j. of_both (lost j) (c.changes_of-changes.ensures t stands j)) in
    c.with_presence.ensures ∙ (λ j. with_presence (gone j) (both j))
