use Rattle.crush_laws.proofs.Planned.{plans_are_run, plans_are_scripts}
use Rattle.crush_laws.proofs.plans.a_plan_is_a_script.Goals as goal

pub returns : goal.returns
returns c = record { script = plans_are_scripts; run = plans_are_run }
