use Rattle.std.proofs.Common.{rules}
use Rattle.crush_options.proofs.command_line.output_spec_by.Goals as goal

pub returns-in-None-None-2 : goal.returns-in-None-None-2
returns-in-None-None-2 c = search rules

pub returns-in-None-None-3 : goal.returns-in-None-None-3
returns-in-None-None-3 c = search rules
