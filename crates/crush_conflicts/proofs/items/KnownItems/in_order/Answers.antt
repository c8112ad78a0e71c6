use Rattle.std.proofs.Common.{ap, map, subst, sym, ◌∙◌}
use Rattle.crush_model.specs.Stands.{Stands}
use Rattle.crush_items.specs.Items.{item_step}
use Rattle.crush_conflicts.proofs.items.KnownItems.in_order.Goals as goal

pub returns : goal.returns
returns g c = λ t stands. ap (map item_step) c.as_slice.ensures.value ∙ c.self.invariant.tree t (subst (λ f. Stands f t) (sym c.self.view_is) stands)
