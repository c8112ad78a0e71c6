use Rattle.std.proofs.Common.{rules}
use Rattle.crush_options.proofs.command_line.changes_by.Goals as goal

pub returns : goal.returns
returns c = search rules
