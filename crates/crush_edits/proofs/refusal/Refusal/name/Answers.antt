use Rattle.std.proofs.Common.{rules}
use Rattle.crush_edits.proofs.refusal.Refusal.name.Goals as goal

pub returns-in-NotPlaced : goal.returns-in-NotPlaced
returns-in-NotPlaced c = search rules
