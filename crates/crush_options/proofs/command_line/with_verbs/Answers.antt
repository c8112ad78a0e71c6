use Rattle.std.proofs.Common.{subst}
use Rattle.crush_options.specs.Options.{IsFaultOf}
use Rattle.crush_options.proofs.command_line.with_verbs.Goals as goal

pub returns-in-Refused : goal.returns-in-Refused
returns-in-Refused c = λ kind told. c.told_verbs.ensures kind (subst (IsFaultOf kind) c.in-Refused.is told)
