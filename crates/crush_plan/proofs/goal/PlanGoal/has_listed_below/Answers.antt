use Rattle.std.proofs.Common.{◌∙◌, ap, sym}
use Rattle.std.specs.List.{list_all}
use Rattle.std.specs.Option.{option_map}
use Rattle.crush_print.specs.WalkStep.{walk_step_data}
use Rattle.crush_plan.specs.Part.{is_item_in_part}
use Rattle.crush_plan.proofs.Among.{all_below_pass}
use Rattle.crush_plan.proofs.goal.PlanGoal.has_listed_below.Goals as goal

pub returns : goal.returns
returns g c = λ so v d t u a b.
    let test = is_item_in_part t u (option_map (λ n. n.now) c.args.self.now.under) v in
    all_below_pass test c.args.map.now.forest v c.args.bucket c.in_ok-below.below.items d (c.in_ok-below.ensures v d)
    (ap (list_all (λ s. test (walk_step_data s).item.id)) (sym c.as_slice.ensures.value) ∙ sym (c.are_in_part.ensures t u v a b d) ∙ so)
