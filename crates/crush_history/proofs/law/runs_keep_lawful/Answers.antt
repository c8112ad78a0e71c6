use Rattle.crush_history.proofs.RunLaws.{call_keeps, history_keeps, turns_keep}
use Rattle.crush_history.proofs.law.runs_keep_lawful.Goals as goal

pub returns : goal.returns
returns c = record { call = call_keeps; history = history_keeps; turns = turns_keep }
