use Rattle.crush_input.specs.Input.{job_bytes}
use Rattle.crush_input.specs.Origins.{job_origin}
use Rattle.crush_run.proofs.Outputs.{early_of_output, ended_as_wanted, ended_before_output, ending_as_wanted, job_where_done, options_fault_of_outcome, options_fault_of_read}
use Rattle.crush_run.proofs.Early.{early_of_read}
use Rattle.crush_run.proofs.options.run_options.Goals as goal

-- a fault of reading is possible before there is a job
pub returns-in-Err-clause-output : goal.returns-in-Err-clause-output
returns-in-Err-clause-output g c = λ bytes job all is.
    ended_before_output _ _ _ bytes job _ _ _ _ _ c.of_aborted.ensures.outcome (early_of_read (job_bytes (g.F.Opens.content c.args.files.now) c.args.options.now (g.R.Read.remaining c.args.input.now)) _ c.in-Err.ensures.fault)

-- a fault of the selected output is possible before there is a history
pub returns-in-Err-output_of-clause-output : goal.returns-in-Err-output_of-clause-output
returns-in-Err-output_of-clause-output g c = λ bytes job all is.
    ended_before_output _ _ _ bytes job _ _ _ _ _ c.of_aborted-in-Err-output_of.ensures.outcome (early_of_output (g.F.Opens.content c.args.files.now) _ _ c.in-Err-output_of.ensures.fault)

pub returns-in-Err-clause-noted : goal.returns-in-Err-clause-noted
returns-in-Err-clause-noted g c = rw (c.of_aborted.ensures.outcome, c.of_aborted.ensures.notes) c.in-Err.ensures.noted

pub returns-in-Err-clause-fault : goal.returns-in-Err-clause-fault
returns-in-Err-clause-fault g c = rw c.of_aborted.ensures.outcome (options_fault_of_read (g.F.Opens.content c.args.files.now) c.args.options.now (job_bytes (g.F.Opens.content c.args.files.now) c.args.options.now (g.R.Read.remaining c.args.input.now)) _ c.in-Err.ensures.fault)

pub returns-clause-job : goal.returns-clause-job
returns-clause-job g c = job_where_done c.run_parsed_job.result.outcome (job_bytes (g.F.Opens.content c.args.files.now) c.args.options.now (g.R.Read.remaining c.args.input.now)) c.in-Ok.ensures.job

-- the result is that of a run of the job that was read, with the selected output
pub returns-clause-output : goal.returns-clause-output
returns-clause-output g c = λ bytes job all is.
    let read = c.in-Ok.ensures.only bytes job all is in
    ended_as_wanted (g.F.Opens.content c.args.files.now) c.args.options.now _ _ bytes job _ c.run_parsed_job.result.outcome _ _ _ c.in-Ok-output_of.ensures.output read.text (c.run_parsed_job.ensures.ends job read.stands)

pub returns-clause-noted : goal.returns-clause-noted
returns-clause-noted g c = ending_as_wanted (g.F.Opens.content c.args.files.now) c.args.options.now (g.R.Read.remaining c.args.input.now) _ _ c.run_parsed_job.ensures.fault (c.run_parsed_job.ensures.noted (job_origin (g.F.Opens.content c.args.files.now) c.args.options.now (g.R.Read.remaining c.args.input.now)) _)

pub returns-clause-fault : goal.returns-clause-fault
returns-clause-fault g c = options_fault_of_outcome (g.F.Opens.content c.args.files.now) c.args.options.now (job_bytes (g.F.Opens.content c.args.files.now) c.args.options.now (g.R.Read.remaining c.args.input.now)) c.run_parsed_job.result.outcome c.in-Ok.ensures.job c.run_parsed_job.ensures.fault
