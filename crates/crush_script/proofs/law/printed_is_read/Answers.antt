use Rattle.crush_script.proofs.PrintedLaws as laws
use Rattle.crush_script.proofs.Said.{read_is_said}
use Rattle.crush_script.proofs.law.printed_is_read.Goals as goal

pub returns : goal.returns
returns c = record { printed = laws.printed_is_read; read = read_is_said }
