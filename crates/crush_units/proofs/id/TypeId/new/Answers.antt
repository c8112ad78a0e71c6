use Rattle.std.proofs.Common.{refl}
use Rattle.crush_units.proofs.id.TypeId.new.Goals as goal

pub returns : goal.returns
returns c = refl
