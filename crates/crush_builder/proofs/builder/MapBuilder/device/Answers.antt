use Rattle.std.proofs.Common.{sym}
use Rattle.crush_builder.proofs.builder.MapBuilder.device.Goals as goal

pub returns-clause-clear : goal.returns-clause-clear
returns-clause-clear g c = λ d i. sym (c.in_default.ensures d i)

pub returns-clause-ok : goal.returns-clause-ok
returns-clause-ok g c = c.in_ok-device_unchecked.ensures.ok
