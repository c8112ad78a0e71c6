use Rattle.std.proofs.Common.{◌≡◌, drop, map}
use Rattle.crush_reasons.specs.Commands.{first_command}
use Rattle.crush_reasons.proofs.commands.first_command.Given as goal

abbrev pub invariant-loop-command : goal.invariant-loop-command
invariant-loop-command l = first_command l.word (map (λ command. command.now) l.commands) ≡ first_command l.word (map (λ command. command.now) (drop l.command-index l.commands))
