use Rattle.std.proofs.Common.{Some, refl}
use Rattle.std.proofs.lemmas.Result.{err_from_is_err_and}
use Rattle.crush_input.specs.Input.{job_bytes}
use Rattle.crush_input.proofs.Outputs.{no_job_as_wanted, part_as_wanted}
use Rattle.crush_input.proofs.Joins.{come_from, input_of_joined}
use Rattle.crush_input.proofs.Outcomes.{err_as, err_both}
use Rattle.crush_input.proofs.Noted.{noted_of_all}
use Rattle.crush_input.proofs.Told.{has_job_where_done, job_of_all, no_job_of_all, read_fault_of_input, same_of_job, weighed_of_all}
use Rattle.crush_input.proofs.job.read_whole.Goals as goal

pub returns-clause-job : goal.returns-clause-job
returns-clause-job g c =
    let all = job_bytes (g.F.Opens.content c.args.files.now) c.args.options.now (g.R.Read.remaining c.args.input.now) in
    has_job_where_done c.job_of.result all _ (input_of_joined all _ _ c.in_ok-bytes.ensures.job) c.job_of.ensures.job

-- the job of all bytes is the job of the bytes that were read
pub returns-clause-only : goal.returns-clause-only
returns-clause-only g c = λ xs job all is.
    let content = g.F.Opens.content c.args.files.now in
    let known = job_bytes content c.args.options.now (g.R.Read.remaining c.args.input.now) in
    let from = come_from _ _ _ known _ _ c.first_name.ensures refl c.in_ok-bytes.ensures.job in
    let input = input_of_joined known _ _ c.in_ok-bytes.ensures.job in
    let own = job_of_all _ _ xs job input all is in
    weighed_of_all c.args.options.now.mode.explain _ _ known _ xs job c.job_of.result from all own.short (same_of_job _ _ xs job input all is) (c.job_of.ensures.only job own)

pub returns-clause-fault : goal.returns-clause-fault
returns-clause-fault g c =
    let all = job_bytes (g.F.Opens.content c.args.files.now) c.args.options.now (g.R.Read.remaining c.args.input.now) in
    err_as _ _ c.job_of.result (λ s h. no_job_of_all s.fault all _ (input_of_joined all _ _ c.in_ok-bytes.ensures.job) h) c.job_of.ensures.fault

-- the notes of a fault have its place in the file from which the line comes
pub returns-clause-noted : goal.returns-clause-noted
returns-clause-noted g c =
    let content = g.F.Opens.content c.args.files.now in
    let all = job_bytes content c.args.options.now (g.R.Read.remaining c.args.input.now) in
    let from = come_from _ _ _ all _ _ c.first_name.ensures refl c.in_ok-bytes.ensures.job in
    err_both _ _ _ c.job_of.result (λ s h told. no_job_as_wanted content c.args.options.now (g.R.Read.remaining c.args.input.now) (Some _) s.fault _ h (noted_of_all _ _ _ all _ s.fault _ from h told)) c.job_of.ensures.fault c.job_of.ensures.noted

-- a fault that occurs while the bytes are read is a fault of the whole function, and its notes are the notes about a file
pub returns-in_err-bytes-clause-fault : goal.returns-in_err-bytes-clause-fault
returns-in_err-bytes-clause-fault g c =
    let p = err_from_is_err_and c.from_residual.result c.from_residual.ensures.1 in
    let all = job_bytes (g.F.Opens.content c.args.files.now) c.args.options.now (g.R.Read.remaining c.args.input.now) in
    rw (p.1, p.2) (read_fault_of_input _ all c.in_err-bytes.ensures.fault)

pub returns-in_err-bytes-clause-noted : goal.returns-in_err-bytes-clause-noted
returns-in_err-bytes-clause-noted g c =
    let p = err_from_is_err_and c.from_residual.result c.from_residual.ensures.1 in
    rw (p.1, p.2) (part_as_wanted (g.F.Opens.content c.args.files.now) c.args.options.now (g.R.Read.remaining c.args.input.now) _ _ c.in_err-bytes.ensures.fault c.in_err-bytes.ensures.noted)
