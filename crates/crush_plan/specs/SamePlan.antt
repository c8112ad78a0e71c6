-- The result of `==` for two plans.
use Rattle.std.specs.Prelude.{Bool}
use Rattle.crush_plan.specs.declared.plan.Plan.{Plan}
use Rattle.crush_plan.specs.contracts.plan.PlanPartialEq.TheImpl as plan

-- whether the two plans are equal
abbrev pub same_plan : Plan → Plan → Bool
same_plan = (plan.ghosts).eq
