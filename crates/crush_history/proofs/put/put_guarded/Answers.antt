use Rattle.std.proofs.lemmas.Result.{err_from_is_err_and}
use Rattle.crush_units.proofs.Appending.{less_of_both}
use Rattle.crush_history.proofs.Putting.{then_writes}
use Rattle.crush_history.proofs.put.put_guarded.Goals as goal

pub returns-in_err-put_guard-clause-writes : goal.returns-in_err-put_guard-clause-writes
returns-in_err-put_guard-clause-writes g c =
    let p = err_from_is_err_and c.from_residual.result c.from_residual.ensures.1 in
    rw p.1 (less_of_both _ _ _ _ c.in_err-put_guard.ensures.writes)

pub returns-clause-writes : goal.returns-clause-writes
returns-clause-writes g c = then_writes _ _ _ _ _ _ c.in_ok-put_guard.ensures.writes c.put_rest.ensures.writes
