use Rattle.std.proofs.Common.{ℕ, Some, ap, subst, ◌∙◌}
use Rattle.crush_reasons.specs.Place.{OriginData}
use Rattle.crush_input.specs.Notes.{AreNotesOfFault, TextData, text_of}
use Rattle.crush_input.specs.Origins.{no_origin}
use Rattle.crush_run.specs.Run.{Ends}
use Rattle.crush_run.proofs.Early.{early_of_no_job}
use Rattle.crush_run.proofs.Runs.{ended_early}
use Rattle.crush_run.proofs.Told.{is_job, run_fault_of_job, run_fault_of_no_job}
use Rattle.crush_run.proofs.run.run_bytes.Goals as goal

pub returns-in-Ok-clause-job : goal.returns-in-Ok-clause-job
returns-in-Ok-clause-job g c = is_job c.run_parsed_job.result.outcome _ c.in-Ok.ensures.job

pub returns-in-Ok-clause-output : goal.returns-in-Ok-clause-output
returns-in-Ok-clause-output g c = λ job is.
    let read = c.in-Ok.ensures.only job is in
    let text = read.text ∙ ap (λ (o : ℕ → OriginData). text_of c.args.request.now.mode.explain o c.args.bytes.items job.table) c.none.ensures in
    subst (λ (w : TextData). Ends c.args.request.now.mode c.args.request.now.output job w c.run_parsed_job.result.outcome (g.W.Write.contents c.args.writer.now) (g.W.Write.contents c.run_parsed_job.new.writer) c.run_parsed_job.result.notes.items) text (c.run_parsed_job.ensures.ends job read.stands)

pub returns-in-Ok-clause-noted : goal.returns-in-Ok-clause-noted
returns-in-Ok-clause-noted g c = c.run_parsed_job.ensures.noted no_origin (Some c.args.bytes.items)

pub returns-in-Ok-clause-fault : goal.returns-in-Ok-clause-fault
returns-in-Ok-clause-fault g c = run_fault_of_job c.args.request.now.mode c.run_parsed_job.result.outcome (Some c.args.bytes.items) c.in-Ok.ensures.job c.run_parsed_job.ensures.fault

-- if the bytes aren't a job, then nothing was written, and the fault is a fault of the bytes
pub returns-in-Err-clause-output : goal.returns-in-Err-clause-output
returns-in-Err-clause-output g c = λ job is.
    ended_early c.args.request.now.mode c.args.request.now.output job _ _ _ _ _ c.of_aborted.ensures.outcome (early_of_no_job (Some c.args.bytes.items) _ c.in-Err.ensures.fault)

pub returns-in-Err-clause-noted : goal.returns-in-Err-clause-noted
returns-in-Err-clause-noted g c =
    rw (c.of_aborted.ensures.outcome, c.of_aborted.ensures.notes) (subst (λ (o : ℕ → OriginData). AreNotesOfFault c.args.request.now.mode.explain o (Some c.args.bytes.items) c.in-Err.aborted.fault c.in-Err.aborted.notes.items) c.none.ensures c.in-Err.ensures.noted)

pub returns-in-Err-clause-fault : goal.returns-in-Err-clause-fault
returns-in-Err-clause-fault g c = rw c.of_aborted.ensures.outcome (run_fault_of_no_job c.args.request.now.mode _ (Some c.args.bytes.items) c.in-Err.ensures.fault)
