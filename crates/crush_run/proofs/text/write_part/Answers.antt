use Rattle.crush_run.proofs.Written.{keeps_same}
use Rattle.crush_run.proofs.text.write_part.Goals as goal

-- if memory runs out, then nothing is written
pub returns-in_default-clause-writes : goal.returns-in_default-clause-writes
returns-in_default-clause-writes g c = λ t u before after. keeps_same _
