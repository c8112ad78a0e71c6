use Rattle.std.proofs.Common.{rules}
use Rattle.crush_editor.proofs.locked.Seat.operator.Goals as goal

pub returns : goal.returns
returns g c = search rules
