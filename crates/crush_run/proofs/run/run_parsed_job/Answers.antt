use Rattle.std.proofs.Common.{ap, ◌∙◌}
use Rattle.std.proofs.lemmas.Option.{IfSome_then}
use Rattle.crush_history.specs.HistoryText.{names_of}
use Rattle.crush_history.specs.Script.{scripts_data}
use Rattle.crush_run.proofs.Early.{early_of_scripts, scripts_noted}
use Rattle.crush_run.proofs.Noted.{lost_needs}
use Rattle.crush_run.proofs.Written.{keeps_same}
use Rattle.crush_run.proofs.Runs.{ended_early, kept_opening, left_ends}
use Rattle.crush_run.proofs.Told.{outcome_fault_of_scripts, outcome_fault_of_writing}
use Rattle.crush_run.proofs.run.run_parsed_job.Goals as goal

-- if there is no memory for the names, the run ends before it has a history
pub returns-in_default-clause-ends : goal.returns-in_default-clause-ends
returns-in_default-clause-ends g c = λ read stands.
    ended_early c.args.request.now.mode c.args.request.now.output read _ _ _ _ _ c.without_notes.ensures.outcome tt

pub returns-in-Err-clause-ends : goal.returns-in-Err-clause-ends
returns-in-Err-clause-ends g c = λ read stands.
    ended_early c.args.request.now.mode c.args.request.now.output read _ _ _ _ _ c.without_notes-in-Err.ensures.outcome (early_of_scripts _ _ c.in-Err.ensures.fault)

pub returns-in-Err-clause-nothing : goal.returns-in-Err-clause-nothing
returns-in-Err-clause-nothing g c = rw c.without_notes-in-Err.ensures.outcome (λ other. keeps_same _)

pub returns-in-Err-clause-fault : goal.returns-in-Err-clause-fault
returns-in-Err-clause-fault g c = rw c.without_notes-in-Err.ensures.outcome (outcome_fault_of_scripts c.args.request.now.mode _ c.in-Err.ensures.fault)

pub returns-in-Err-clause-noted : goal.returns-in-Err-clause-noted
returns-in-Err-clause-noted g c = λ origin all. scripts_noted _ _ origin all _ _ _ c.without_notes-in-Err.ensures.outcome c.in-Err.ensures.fault c.without_notes-in-Err.ensures.quiet

-- if there is no memory for the copy of the map as it was read, the run ends before it has a history
pub returns-in_default-opening_if_needed-clause-ends : goal.returns-in_default-opening_if_needed-clause-ends
returns-in_default-opening_if_needed-clause-ends g c = λ read stands.
    ended_early c.args.request.now.mode c.args.request.now.output read _ _ _ _ _ c.without_notes-in_default-opening_if_needed.ensures.outcome tt

-- if there is no memory for the plan, the run also ends with nothing written
pub returns-in_default-plan_if_requested-clause-ends : goal.returns-in_default-plan_if_requested-clause-ends
returns-in_default-plan_if_requested-clause-ends g c = λ read stands.
    ended_early c.args.request.now.mode c.args.request.now.output read _ _ _ _ _ c.without_notes-in_default-plan_if_requested.ensures.outcome tt

pub returns-in_default-plan_if_requested-clause-nothing : goal.returns-in_default-plan_if_requested-clause-nothing
returns-in_default-plan_if_requested-clause-nothing g c = rw c.without_notes-in_default-plan_if_requested.ensures.outcome (λ other. keeps_same _)

pub lost_if_requested-requires : goal.lost_if_requested-requires
lost_if_requested-requires g c = λ on. c.in-Ok-opening_if_needed.ensures.kept (lost_needs c.args.request.now.mode c.args.request.now.output on)

-- so it does without memory for the lost changes
pub returns-in_default-lost_if_requested-clause-ends : goal.returns-in_default-lost_if_requested-clause-ends
returns-in_default-lost_if_requested-clause-ends g c = λ read stands.
    ended_early c.args.request.now.mode c.args.request.now.output read _ _ _ _ _ c.without_notes-in_default-lost_if_requested.ensures.outcome tt

pub returns-in_default-lost_if_requested-clause-nothing : goal.returns-in_default-lost_if_requested-clause-nothing
returns-in_default-lost_if_requested-clause-nothing g c = rw c.without_notes-in_default-lost_if_requested.ensures.outcome (λ other. keeps_same _)

-- otherwise the output is written, and the run has its notes
pub returns-clause-ends : goal.returns-clause-ends
returns-clause-ends g c = λ read stands.
    let ran = c.in-Ok-run_scripts.ensures.runs read stands.map stands.scripts in
    let same = ap (λ xs. names_of (scripts_data xs)) c.as_slice-names.ensures.value ∙ c.in-Ok.ensures.names ∙ ap (λ xs. names_of (scripts_data xs)) c.as_slice.ensures.value ∙ ap names_of stands.scripts in
    let opening = kept_opening c.args.request.now.mode c.args.request.now.output c.in-Ok-opening_if_needed.opening read.setting read.table c.in-Ok-opening_if_needed.ensures.kept (IfSome_then c.in-Ok-opening_if_needed.opening c.in-Ok-opening_if_needed.ensures.stands (λ m is. is _ _ stands.map)) in
    left_ends c.args.request.now.mode c.args.request.now.output _ read _ _ _ _ _ _ _ _ _ _ _ _ c.end_run.ensures c.in-Ok-plan_if_requested.ensures (λ o z. c.in-Ok-lost_if_requested.ensures read.setting o z) opening ran same c.as_slice-entries.ensures.value stands.adjusted

pub returns-clause-fault : goal.returns-clause-fault
returns-clause-fault g c = outcome_fault_of_writing c.args.request.now.mode _ c.end_run.ensures.fault
