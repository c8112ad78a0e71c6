use Rattle.crush_run.proofs.Written.{keeps_same}
use Rattle.crush_run.proofs.planned.write_plan.Goals as goal

-- if memory runs out, then nothing is written
pub returns-in_default-clause-writes : goal.returns-in_default-clause-writes
returns-in_default-clause-writes g c = λ t stands. keeps_same _
