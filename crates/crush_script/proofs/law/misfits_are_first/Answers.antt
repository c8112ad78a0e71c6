use Rattle.crush_script.proofs.FirstMisfits.{misfits_of_commands, misfits_of_operators}
use Rattle.crush_script.proofs.law.misfits_are_first.Goals as goal

pub returns : goal.returns
returns c = record { commands = misfits_of_commands; operators = misfits_of_operators }
