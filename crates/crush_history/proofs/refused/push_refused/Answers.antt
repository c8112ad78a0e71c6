use Rattle.std.proofs.Common.{rules}
use Rattle.crush_history.proofs.refused.push_refused.Goals as goal

pub returns-then-not-is_refused : goal.returns-then-not-is_refused
returns-then-not-is_refused c = search rules
