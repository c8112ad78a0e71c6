use Rattle.std.proofs.Common.{ap, ◌∙◌}
use Rattle.std.proofs.lemmas.Result.{err_from_is_err_and}
use Rattle.crush_run.specs.Run.{summed}
use Rattle.crush_run.proofs.Written.{unwritten_of_check}
use Rattle.crush_run.proofs.outcome.write_outcome.Goals as goal

-- if the run ends before its write, then nothing was written
pub returns-in_err-check_conditions-clause-writes : goal.returns-in_err-check_conditions-clause-writes
returns-in_err-check_conditions-clause-writes g c = λ o t opening stands.
    let p = err_from_is_err_and c.from_residual.result c.from_residual.ensures.1 in
    unwritten_of_check c.args.request.now.mode _ _ _ _ _ p.1 p.2 c.in_err-check_conditions.ensures.fault

-- the summary is that of the history
pub returns-clause-summary : goal.returns-clause-summary
returns-clause-summary g c = λ t stands. c.summary_of.ensures ∙ ap (λ d. summed c.args.completed.now.adjusted d c.args.completed.now.entries.now) (c.in_ok-differs.ensures t stands)
