use Rattle.std.proofs.Common.{◌≡◌, true, take, List}
use Rattle.std.specs.List.{list_all}
use Rattle.std.specs.Option.{option_map}
use Rattle.crush_model.specs.Stands.{Stands}
use Rattle.crush_model.specs.Table.{Row}
use Rattle.crush_print.specs.WalkStep.{walk_step_data}
use Rattle.crush_plan.specs.Part.{is_item_in_part}
use Rattle.crush_plan.proofs.goal.PlanGoal.are_in_part.Given as goal

-- all items visited so far are in the part
abbrev pub invariant-loop-step : goal.invariant-loop-step
invariant-loop-step g l =
    (t u v : List Row) → Stands l.self.before.now.forest t → Stands l.self.wanted.now.forest u → Stands l.map.forest v → list_all (λ s. is_item_in_part t u (option_map (λ n. n.now) l.self.under) v (walk_step_data s).item.id) (take l.step-index l.steps) ≡ true
