use Rattle.std.proofs.Common.{rules}
use Rattle.crush_edits.proofs.refusal.Refusal.number.Goals as goal

pub returns-in-NoRoom : goal.returns-in-NoRoom
returns-in-NoRoom c = search rules
