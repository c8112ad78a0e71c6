use Rattle.std.proofs.Common.{rules}
use Rattle.crush_text.proofs.fault.TextFaultKind.number.Goals as goal

pub returns-in-BadWord : goal.returns-in-BadWord
returns-in-BadWord c = search rules
