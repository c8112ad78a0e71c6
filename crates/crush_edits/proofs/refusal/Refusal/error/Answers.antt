use Rattle.std.proofs.Common.{rules}
use Rattle.crush_edits.proofs.refusal.Refusal.error.Goals as goal

pub returns-in-Loop : goal.returns-in-Loop
returns-in-Loop c = search rules
