use Rattle.crush_model.proofs.FreeIds.{free_ids-free, used_ids-few}
use Rattle.crush_model.proofs.law.free_ids_are_free.Goals as goal

pub returns : goal.returns
returns c = record { free = free_ids-free; few = used_ids-few }
