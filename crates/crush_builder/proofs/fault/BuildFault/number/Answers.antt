use Rattle.std.proofs.Common.{rules}
use Rattle.crush_builder.proofs.fault.BuildFault.number.Goals as goal

pub returns-in-SecondParent : goal.returns-in-SecondParent
returns-in-SecondParent c = search rules
