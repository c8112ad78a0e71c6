use Rattle.std.proofs.Common.{◌≡◌, ap, ◌∙◌}
use Rattle.crush_items.specs.ItemData.{item_of}
use Rattle.crush_nodes.specs.Views.{ViewData}
use Rattle.crush_conflicts.specs.Conflicts.{old_case}
use Rattle.crush_conflicts.proofs.maps.RunItems.old_case.Goals as goal

pub returns : goal.returns
unfolding old_case
returns g c = λ t z os before after are.
    (λ j. record { name = c.view-view.result.name.now; before = c.find.ensures t before j; alone = c.in_ok-alone.ensures os are j; after = c.find-2.ensures z after j })
    ∙ ap (λ (v : ViewData). old_case t os z (record { depth = 0; item = v })) c.view-view.ensures
