use Rattle.std.proofs.Common.{rules}
use Rattle.crush_json.proofs.commands.push_command.Goals as goal

pub returns : goal.returns
returns c = search rules
