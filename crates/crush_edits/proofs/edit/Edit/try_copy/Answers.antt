use Rattle.std.proofs.Common.{rules}
use Rattle.crush_edits.proofs.edit.Edit.try_copy.Goals as goal

pub returns-in_ok-first-in-Swap : goal.returns-in_ok-first-in-Swap
returns-in_ok-first-in-Swap c = search rules
