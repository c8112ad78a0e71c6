use Rattle.crush_units.proofs.Appending.{nothing_is_less}
use Rattle.crush_json.proofs.PlanLaws.{some_plan_text}
use Rattle.crush_json.proofs.write.plan.write_plan_document.Goals as goal

-- if memory runs out, nothing is written
pub returns-in_default-clause-writes : goal.returns-in_default-clause-writes
returns-in_default-clause-writes g c = nothing_is_less _ _ (some_plan_text _)
