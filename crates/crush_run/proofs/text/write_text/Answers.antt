use Rattle.std.proofs.lemmas.Result.{err_from_is_err_and}
use Rattle.crush_run.proofs.Written.{less_of_put, put_behind}
use Rattle.crush_run.proofs.text.write_text.Goals as goal

-- if the write of the output fails, then less than the whole text was written
pub returns-in_err-write_output-clause-writes : goal.returns-in_err-write_output-clause-writes
returns-in_err-write_output-clause-writes g c = λ o t opening stands.
    let p = err_from_is_err_and c.from_residual.result c.from_residual.ensures.1 in
    less_of_put _ _ _ _ _ _ _ p.1 p.2 (c.in_err-write_output.ensures.writes o t opening stands)

pub returns-clause-writes : goal.returns-clause-writes
returns-clause-writes g c = λ o t opening stands.
    rw (← c.in-Ok.ensures, ← c.as_slice.ensures.value) (put_behind _ _ _ _ _ _ (c.in_ok-write_output.ensures.writes o t opening stands) c.put.ensures.writes c.put.ensures.fault)
