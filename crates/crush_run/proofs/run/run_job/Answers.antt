use Rattle.crush_run.proofs.Early.{early_of_input, input_noted}
use Rattle.crush_run.proofs.Noted.{ending_of_all}
use Rattle.crush_run.proofs.Runs.{ended_early, weighed_of_all}
use Rattle.crush_input.specs.Origins.{no_origin}
use Rattle.crush_input.proofs.Told.{has_job_where_done, job_of_all, known_of_take, same_of_job}
use Rattle.crush_run.proofs.Told.{run_fault_of_all, run_fault_of_input}
use Rattle.crush_run.proofs.run.run_job.Goals as goal

pub returns-in-Ok-clause-job : goal.returns-in-Ok-clause-job
returns-in-Ok-clause-job g c = has_job_where_done c.run_bytes.result.outcome _ _ (known_of_take _ _ c.in-Ok.ensures.bytes) c.run_bytes.ensures.job

pub returns-in-Ok-clause-output : goal.returns-in-Ok-clause-output
returns-in-Ok-clause-output g c = λ xs job all is.
    let read = known_of_take _ _ c.in-Ok.ensures.bytes in
    weighed_of_all c.args.request.now.mode c.args.request.now.output job no_origin _ xs c.run_bytes.result.outcome _ _ _ (same_of_job _ _ xs job read all is) (c.run_bytes.ensures.output job (job_of_all _ _ xs job read all is))

pub returns-in-Ok-clause-noted : goal.returns-in-Ok-clause-noted
returns-in-Ok-clause-noted g c = ending_of_all c.args.request.now.mode no_origin _ _ c.run_bytes.result.outcome _ (known_of_take _ _ c.in-Ok.ensures.bytes) c.run_bytes.ensures.fault c.run_bytes.ensures.noted

pub returns-in-Ok-clause-fault : goal.returns-in-Ok-clause-fault
returns-in-Ok-clause-fault g c = run_fault_of_all c.args.request.now.mode c.run_bytes.result.outcome _ _ (known_of_take _ _ c.in-Ok.ensures.bytes) c.run_bytes.ensures.fault

-- the bytes that were read are those that the reader has given
pub returns-in-Ok-clause-taken : goal.returns-in-Ok-clause-taken
returns-in-Ok-clause-taken g c = (c.in-Ok.bytes.items, c.in-Ok.ensures.few, c.in-Ok.ensures.consumed)

-- a fault of the reader is possible before there is a job
pub returns-in-Err-clause-output : goal.returns-in-Err-clause-output
returns-in-Err-clause-output g c = λ bytes job all is.
    ended_early c.args.request.now.mode c.args.request.now.output job _ _ _ _ _ c.without_notes.ensures.outcome (early_of_input _ c.in-Err.ensures.fault)

pub returns-in-Err-clause-noted : goal.returns-in-Err-clause-noted
returns-in-Err-clause-noted g c = input_noted _ no_origin _ _ _ _ c.without_notes.ensures.outcome c.in-Err.ensures.fault c.without_notes.ensures.quiet

pub returns-in-Err-clause-fault : goal.returns-in-Err-clause-fault
returns-in-Err-clause-fault g c = rw c.without_notes.ensures.outcome (run_fault_of_input c.args.request.now.mode _ _ c.in-Err.ensures.fault)

pub returns-in-Err-clause-taken : goal.returns-in-Err-clause-taken
returns-in-Err-clause-taken g c = c.in-Err.ensures.taken
