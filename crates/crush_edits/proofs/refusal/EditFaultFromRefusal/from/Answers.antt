use Rattle.std.proofs.Common.{refl}
use Rattle.crush_edits.proofs.refusal.EditFaultFromRefusal.from.Goals as goal

pub returns : goal.returns
returns c = refl
