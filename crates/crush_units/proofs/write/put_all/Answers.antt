use Rattle.std.proofs.lemmas.Result.{err_from_is_err_and}
use Rattle.crush_units.proofs.Appending.{parts_stop}
use Rattle.crush_units.proofs.write.put_all.Goals as goal

pub returns-in_err-put-clause-writes : goal.returns-in_err-put-clause-writes
returns-in_err-put-clause-writes g c =
    let p = err_from_is_err_and c.from_residual.result c.from_residual.ensures.1 in
    rw p.1 (parts_stop (λ part. part.now) _ _ _ c.args.parts.now c.loop-part.part-index _ c.loop-part-test.true c.loop-part.invariant c.in_err-put.ensures.writes)
