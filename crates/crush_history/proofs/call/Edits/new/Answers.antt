use Rattle.std.proofs.Common.{refl}
use Rattle.crush_history.proofs.call.Edits.new.Goals as goal

pub returns : goal.returns
returns c = refl
