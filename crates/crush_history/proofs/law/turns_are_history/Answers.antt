use Rattle.crush_history.proofs.Histories as laws
use Rattle.crush_history.proofs.law.turns_are_history.Goals as goal

pub returns : goal.returns
returns c = laws.turns_are_history
