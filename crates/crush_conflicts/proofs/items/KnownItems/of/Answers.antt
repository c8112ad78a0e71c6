use Rattle.std.proofs.Common.{ap, subst, ◌∙◌}
use Rattle.crush_model.specs.Stands.{Stands}
use Rattle.crush_map.specs.MapData.{MapData}
use Rattle.crush_conflicts.proofs.items.KnownItems.of.Goals as goal

pub invariant_of-result : goal.invariant_of-result
invariant_of-result g c = record {
  tree = λ t stands. c.in_ok-items.ensures.steps t (subst (λ (m : MapData). Stands m.forest t) c.in_ok-items.ensures.map stands);
  by_id = λ t stands. c.in_ok-by_id.ensures t (c.in_ok-items.ensures.entries t (subst (λ (m : MapData). Stands m.forest t) c.in_ok-items.ensures.map stands));
}
