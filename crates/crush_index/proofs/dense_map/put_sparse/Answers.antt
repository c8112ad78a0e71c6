use Rattle.std.proofs.Common.{rules}
use Rattle.crush_index.proofs.FarLaws.{far_with}
use Rattle.crush_index.proofs.dense_map.put_sparse.Goals as goal

pub returns-clause-answers : goal.returns-clause-answers
returns-clause-answers g c = far_with c.args.sparse.now c.get_mut.follows.lender-at-none c.args.overflow.now c.set.new.self c.args.number c.args.value (λ q. search rules) (search rules) c.requires c.set.ensures.with
