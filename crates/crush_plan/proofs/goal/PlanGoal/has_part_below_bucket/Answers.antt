use Rattle.std.proofs.Common.{◌≡◌, true, refl, sym, subst}
use Rattle.std.specs.Option.{option_map}
use Rattle.crush_plan.specs.Part.{is_item_in_part}
use Rattle.crush_plan.proofs.goal.PlanGoal.has_part_below_bucket.Goals as goal

pub returns-in-None : goal.returns-in-None
returns-in-None g c = λ so v d t u a b i below. subst (λ o. is_item_in_part t u (option_map (λ n. n.now) o) v i ≡ true) (sym c.in-None.is) refl
