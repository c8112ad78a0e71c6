use Rattle.crush_compare.proofs.PositionLaws.{run_is_part}
use Rattle.crush_compare.proofs.law.a_run_is_a_part.Goals as goal

pub returns : goal.returns
returns c = run_is_part
