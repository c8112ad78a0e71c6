use Rattle.std.proofs.lemmas.Result.{err_from_is_err_and}
use Rattle.crush_units.proofs.Appending.{less_of_both, then_less}
use Rattle.crush_history.proofs.Putting.{line_parts, then_writes}
use Rattle.crush_history.proofs.put.write_entry.Goals as goal

pub returns-in_err-put_head-clause-writes : goal.returns-in_err-put_head-clause-writes
returns-in_err-put_head-clause-writes g c =
    let p = err_from_is_err_and c.from_residual.result c.from_residual.ensures.1 in
    rw (p.1, line_parts) (less_of_both _ _ _ _ c.in_err-put_head.ensures.writes)

pub returns-in_err-put_call-clause-writes : goal.returns-in_err-put_call-clause-writes
returns-in_err-put_call-clause-writes g c =
    let p = err_from_is_err_and c.from_residual-in_err-put_call.result c.from_residual-in_err-put_call.ensures.1 in
    rw (p.1, line_parts) (then_less _ _ _ _ _ c.in_ok-put_head.ensures.writes (less_of_both _ _ _ _ c.in_err-put_call.ensures.writes))

pub returns-clause-writes : goal.returns-clause-writes
returns-clause-writes g c =
    rw line_parts (then_writes _ _ _ _ _ _ c.in_ok-put_head.ensures.writes (then_writes _ _ _ _ _ _ c.in_ok-put_call.ensures.writes c.put_reply.ensures.writes))
