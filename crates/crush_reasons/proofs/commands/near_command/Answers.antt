use Rattle.std.proofs.Common.{ap, ◌∙◌}
use Rattle.crush_reasons.specs.Commands.{first_command, near_command}
use Rattle.crush_reasons.proofs.commands.near_command.Goals as goal

-- the words of the code's list are the words of all commands
pub returns : goal.returns
unfolding near_command
returns c = c.first_command.ensures ∙ ap (first_command c.args.word.now) (cc)
