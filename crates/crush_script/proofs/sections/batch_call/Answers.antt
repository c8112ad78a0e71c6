-- The call has the number of changes that its `begin` line names.
use Rattle.std.proofs.Common.{rules}
use Rattle.crush_script.proofs.sections.batch_call.Goals as goal

pub returns-in-Some : goal.returns-in-Some
returns-in-Some c = search rules
