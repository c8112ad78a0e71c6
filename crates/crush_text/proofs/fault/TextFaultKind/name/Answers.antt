use Rattle.std.proofs.Common.{rules}
use Rattle.crush_text.proofs.fault.TextFaultKind.name.Goals as goal

pub returns-in-Ended : goal.returns-in-Ended
returns-in-Ended c = search rules
