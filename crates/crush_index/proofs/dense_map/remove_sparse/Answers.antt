use Rattle.crush_index.proofs.FarLaws.{far_without}
use Rattle.crush_index.proofs.dense_map.remove_sparse.Goals as goal

pub returns-clause-answers : goal.returns-clause-answers
returns-clause-answers g c = far_without c.args.sparse.now c.swap_remove.new.self c.args.overflow.now c.remove.new.self c.args.number c.swap_remove.ensures.updates.0 c.remove.ensures
