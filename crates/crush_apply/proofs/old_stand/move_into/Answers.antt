use Rattle.crush_apply.proofs.Undone.{noted_stood}
use Rattle.crush_apply.proofs.old_stand.move_into.Goals as goal

pub returns-clause-back : goal.returns-clause-back
returns-clause-back g c = noted_stood _ _ _ _ _ _ _ c.recall_invariant.ensures c.put-stand.ensures.stood c.put-stand.ensures.weighed c.put-stand.ensures.puts
