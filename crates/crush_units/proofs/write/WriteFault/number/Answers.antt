use Rattle.std.proofs.Common.{rules}
use Rattle.crush_units.proofs.write.WriteFault.number.Goals as goal

pub returns-in-OutOfMemory : goal.returns-in-OutOfMemory
returns-in-OutOfMemory c = search rules
