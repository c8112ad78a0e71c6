-- How a run ends if a command line selects its job and its output.
use Rattle.std.proofs.Common.{◌≡◌, ℕ, Bool, List, [], Option, None, Result, Ok, Err, subst}
use Rattle.std.specs.Prelude.{IfOk, IfErr, IfSome}
use Rattle.crush_script.specs.Job.{HasJob, JobData}
use Rattle.crush_options.specs.declared.parsed_options.Options.{Options}
use Rattle.crush_options.specs.declared.parsed_options.OutputSpec.{OutputSpec}
use Rattle.crush_options.specs.declared.parsed_options.OutputSpec.TheVariants as output_spec
use Rattle.crush_input.specs.declared.output.Output.{Output}
use Rattle.crush_input.specs.declared.fault.SecondMap.{SecondMap}
use Rattle.crush_input.specs.declared.fault.SecondMap.TheVariants as second
use Rattle.crush_input.specs.declared.fault.RunFault.{RunFault}
use Rattle.crush_input.specs.declared.fault.RunFault.TheVariants as run
use Rattle.crush_input.specs.declared.summary.Summary.{Summary}
use Rattle.crush_input.specs.Input.{job_bytes}
use Rattle.crush_run.specs.Options.{EndsAsOptionsSay, IsOptionsFault}
use Rattle.crush_input.specs.Options.{IsOutputFault, AreNotesOfOutputFault, IsOutputOf, IsMapFault, AreNotesForOptions}
use Rattle.crush_input.specs.Notes.{AreNotesOfSecondMap, AreNotesOfResult, TextData, text_of}
use Rattle.crush_reasons.specs.Place.{OriginData}
use Rattle.crush_input.specs.Origins.{job_origin}
use Rattle.crush_run.specs.Run.{Ends}
use Rattle.crush_run.specs.Early.{IsEarlyFault}
use Rattle.crush_run.specs.Stages.{IsOutcomeFault}
use Rattle.crush_input.specs.Stages.{IsReadFault}

-- a fault of another map is possible before there is a history
early_of_map : (why : SecondMap) (all : Option (List ℕ)) (f : RunFault) → IsMapFault why all f → IsEarlyFault f
early_of_map why all (run.Job j) h = absurd h
early_of_map why all run.Read h = absurd h
early_of_map why all run.Write h = absurd h
early_of_map why all run.Memory h = tt
early_of_map why all run.Thread h = absurd h
early_of_map why all (run.Refused n) h = absurd h
early_of_map why all (run.Made n) h = absurd h
early_of_map why all (run.Conflicts n) h = absurd h
early_of_map why all (run.Differs n) h = absurd h
early_of_map why all run.NoItem h = absurd h
early_of_map why all run.NoType h = absurd h
early_of_map why all run.NoClass h = absurd h
early_of_map why all (run.SecondMap w s) h = tt

pub early_of_output : (content : List ℕ → Option (List ℕ)) (what : OutputSpec) (f : RunFault) → IsOutputFault content what f → IsEarlyFault f
early_of_output content output_spec.Map f h = absurd h
early_of_output content (output_spec.Tree part) f h = rw h tt
early_of_output content (output_spec.Since words) f h = early_of_map second.Since (content words.map.bytes.items) f h
early_of_output content (output_spec.Changes words) f h = early_of_map second.Since (content words.map.bytes.items) f h
early_of_output content output_spec.AsCeph f h = absurd h
early_of_output content (output_spec.To words) f h = early_of_map second.To (content words.map.bytes.items) f h

-- if a run ended before there was a history, nothing is said of its output
ended_before : (content : List ℕ → Option (List ℕ)) (options : Options) (origin : ℕ → OriginData) (bytes : List ℕ) (job : JobData) (f : RunFault) (old new : Option (List ℕ)) (notes : List ℕ) → IsEarlyFault f → EndsAsOptionsSay content options origin bytes job (Err f) old new notes
ended_before content options origin bytes job (run.Job j) old new notes early = tt
ended_before content options origin bytes job run.Read old new notes early = tt
ended_before content options origin bytes job run.Write old new notes early = absurd early
ended_before content options origin bytes job run.Memory old new notes early = tt
ended_before content options origin bytes job run.Thread old new notes early = tt
ended_before content options origin bytes job (run.Refused n) old new notes early = absurd early
ended_before content options origin bytes job (run.Made n) old new notes early = absurd early
ended_before content options origin bytes job (run.Conflicts n) old new notes early = absurd early
ended_before content options origin bytes job (run.Differs n) old new notes early = absurd early
ended_before content options origin bytes job run.NoItem old new notes early = absurd early
ended_before content options origin bytes job run.NoType old new notes early = absurd early
ended_before content options origin bytes job run.NoClass old new notes early = absurd early
ended_before content options origin bytes job (run.SecondMap w s) old new notes early = tt

pub ended_before_output : (content : List ℕ → Option (List ℕ)) (options : Options) (origin : ℕ → OriginData) (bytes : List ℕ) (job : JobData) (r : Result Summary RunFault) (f : RunFault) (old new : Option (List ℕ)) (notes : List ℕ) → r ≡ Err f → IsEarlyFault f
    → EndsAsOptionsSay content options origin bytes job r old new notes
ended_before_output content options origin bytes job r f old new notes is early = rw is (ended_before content options origin bytes job f old new notes early)

-- a run with the selected output ends as EndsAsOptionsSay says
ended : (content : List ℕ → Option (List ℕ)) (options : Options) (what : Output) (origin : ℕ → OriginData) (bytes : List ℕ) (job : JobData) (r : Result Summary RunFault) (old new : Option (List ℕ)) (notes : List ℕ) → IsOutputOf content options.output_spec what
    → Ends options.mode what job (text_of options.mode.explain origin bytes job.table) r old new notes → EndsAsOptionsSay content options origin bytes job r old new notes
ended content options what origin bytes job (Ok s) old new notes is ends = record { what = what; output = is; ends = ends }
ended content options what origin bytes job (Err (run.Job j)) old new notes is ends = tt
ended content options what origin bytes job (Err run.Read) old new notes is ends = tt
ended content options what origin bytes job (Err run.Write) old new notes is ends = record { what = what; output = is; ends = ends }
ended content options what origin bytes job (Err run.Memory) old new notes is ends = tt
ended content options what origin bytes job (Err run.Thread) old new notes is ends = tt
ended content options what origin bytes job (Err (run.Refused n)) old new notes is ends = record { what = what; output = is; ends = ends }
ended content options what origin bytes job (Err (run.Made n)) old new notes is ends = record { what = what; output = is; ends = ends }
ended content options what origin bytes job (Err (run.Conflicts n)) old new notes is ends = record { what = what; output = is; ends = ends }
ended content options what origin bytes job (Err (run.Differs n)) old new notes is ends = record { what = what; output = is; ends = ends }
ended content options what origin bytes job (Err run.NoItem) old new notes is ends = record { what = what; output = is; ends = ends }
ended content options what origin bytes job (Err run.NoType) old new notes is ends = record { what = what; output = is; ends = ends }
ended content options what origin bytes job (Err run.NoClass) old new notes is ends = record { what = what; output = is; ends = ends }
ended content options what origin bytes job (Err (run.SecondMap w s)) old new notes is ends = tt

pub ended_as_wanted : (content : List ℕ → Option (List ℕ)) (options : Options) (what : Output) (origin : ℕ → OriginData) (bytes : List ℕ) (job : JobData) (text : TextData) (r : Result Summary RunFault) (old new : Option (List ℕ)) (notes : List ℕ) → IsOutputOf content options.output_spec what
    → text ≡ text_of options.mode.explain origin bytes job.table → Ends options.mode what job text r old new notes → EndsAsOptionsSay content options origin bytes job r old new notes
ended_as_wanted content options what origin bytes job text r old new notes is same ends =
    ended content options what origin bytes job r old new notes is (subst (λ (w : TextData). Ends options.mode what job w r old new notes) same ends)

-- the faults of the stages are faults of a run that a command line selects
pub options_fault_of_read : (content : List ℕ → Option (List ℕ)) (options : Options) (all : Option (List ℕ)) (f : RunFault) → IsReadFault all f → IsOptionsFault content options all f
options_fault_of_read content options all (run.Job j) h = h
options_fault_of_read content options all run.Read h = tt
options_fault_of_read content options all run.Write h = absurd h
options_fault_of_read content options all run.Memory h = tt
options_fault_of_read content options all run.Thread h = absurd h
options_fault_of_read content options all (run.Refused n) h = absurd h
options_fault_of_read content options all (run.Made n) h = absurd h
options_fault_of_read content options all (run.Conflicts n) h = absurd h
options_fault_of_read content options all (run.Differs n) h = absurd h
options_fault_of_read content options all run.NoItem h = absurd h
options_fault_of_read content options all run.NoType h = absurd h
options_fault_of_read content options all run.NoClass h = absurd h
options_fault_of_read content options all (run.SecondMap w s) h = absurd h

fault_of_map : (content : List ℕ → Option (List ℕ)) (options : Options) (why : SecondMap) (all own : Option (List ℕ)) (f : RunFault) → IfSome all HasJob → IsOutputFault content options.output_spec f → IsMapFault why own f → IsOptionsFault content options all f
fault_of_map content options why all own (run.Job j) has output h = absurd h
fault_of_map content options why all own run.Read has output h = absurd h
fault_of_map content options why all own run.Write has output h = absurd h
fault_of_map content options why all own run.Memory has output h = tt
fault_of_map content options why all own run.Thread has output h = absurd h
fault_of_map content options why all own (run.Refused n) has output h = absurd h
fault_of_map content options why all own (run.Made n) has output h = absurd h
fault_of_map content options why all own (run.Conflicts n) has output h = absurd h
fault_of_map content options why all own (run.Differs n) has output h = absurd h
fault_of_map content options why all own run.NoItem has output h = absurd h
fault_of_map content options why all own run.NoType has output h = absurd h
fault_of_map content options why all own run.NoClass has output h = absurd h
fault_of_map content options why all own (run.SecondMap w s) has output h = (has, output)

-- a fault of the selected output is a fault of another map
output_is_map : (content : List ℕ → Option (List ℕ)) (what : OutputSpec) (f : RunFault) → IsOutputFault content what f → (why : SecondMap) × (own : Option (List ℕ)) × IsMapFault why own f
output_is_map content output_spec.Map f h = absurd h
output_is_map content (output_spec.Tree part) f h = (second.Since, None, rw h tt)
output_is_map content (output_spec.Since words) f h = (second.Since, content words.map.bytes.items, h)
output_is_map content (output_spec.Changes words) f h = (second.Since, content words.map.bytes.items, h)
output_is_map content output_spec.AsCeph f h = absurd h
output_is_map content (output_spec.To words) f h = (second.To, content words.map.bytes.items, h)

pub options_fault_of_asked : (content : List ℕ → Option (List ℕ)) (options : Options) (all : Option (List ℕ)) (f : RunFault) → IfSome all HasJob → IsOutputFault content options.output_spec f → IsOptionsFault content options all f
options_fault_of_asked content options all f has output =
    let own = output_is_map content options.output_spec f output in
    fault_of_map content options own.0 all own.1 f has output own.2

pub options_fault_of_outcome : (content : List ℕ → Option (List ℕ)) (options : Options) (all : Option (List ℕ)) (r : Result Summary RunFault) → IfSome all HasJob → IfErr r (IsOutcomeFault options.mode)
    → IfErr r (IsOptionsFault content options all)
options_fault_of_outcome content options all (Ok s) has h = tt
options_fault_of_outcome content options all (Err (run.Job j)) has h = absurd h
options_fault_of_outcome content options all (Err run.Read) has h = absurd h
options_fault_of_outcome content options all (Err run.Write) has h = has
options_fault_of_outcome content options all (Err run.Memory) has h = tt
options_fault_of_outcome content options all (Err run.Thread) has h = (h, has)
options_fault_of_outcome content options all (Err (run.Refused n)) has h = (h, has)
options_fault_of_outcome content options all (Err (run.Made n)) has h = (h, has)
options_fault_of_outcome content options all (Err (run.Conflicts n)) has h = (h, has)
options_fault_of_outcome content options all (Err (run.Differs n)) has h = (h, has)
options_fault_of_outcome content options all (Err run.NoItem) has h = has
options_fault_of_outcome content options all (Err run.NoType) has h = has
options_fault_of_outcome content options all (Err run.NoClass) has h = has
options_fault_of_outcome content options all (Err (run.SecondMap w s)) has h = absurd h

-- if the bytes are a job, then they are a job after success too
pub job_where_done : {X : Type 0} (r : Result X RunFault) (all : Option (List ℕ)) → IfSome all HasJob → IfOk r (λ _. IfSome all HasJob)
job_where_done (Ok x) all has = has
job_where_done (Err f) all has = tt

-- the notes of a run are those that the options select
pub ending_as_wanted : (content : List ℕ → Option (List ℕ)) (options : Options) (input : Option (List ℕ)) (r : Result Summary RunFault) (notes : List ℕ) → IfErr r (IsOutcomeFault options.mode)
    → AreNotesOfResult options.mode.explain (job_origin content options input) (job_bytes content options input) r notes → AreNotesForOptions content options input r notes
ending_as_wanted content options input (Ok s) notes h told = told
ending_as_wanted content options input (Err (run.Job j)) notes h told = told
ending_as_wanted content options input (Err run.Read) notes h told = absurd h
ending_as_wanted content options input (Err run.Write) notes h told = told
ending_as_wanted content options input (Err run.Memory) notes h told = told
ending_as_wanted content options input (Err run.Thread) notes h told = told
ending_as_wanted content options input (Err (run.Refused n)) notes h told = told
ending_as_wanted content options input (Err (run.Made n)) notes h told = told
ending_as_wanted content options input (Err (run.Conflicts n)) notes h told = told
ending_as_wanted content options input (Err (run.Differs n)) notes h told = told
ending_as_wanted content options input (Err run.NoItem) notes h told = told
ending_as_wanted content options input (Err run.NoType) notes h told = told
ending_as_wanted content options input (Err run.NoClass) notes h told = told
ending_as_wanted content options input (Err (run.SecondMap w s)) notes h told = absurd h

-- a fault of the selected output can only be a fault of another map. Its notes are those that the options select
noted_of_map : (content : List ℕ → Option (List ℕ)) (options : Options) (why : SecondMap) (input own : Option (List ℕ)) (name : List ℕ) (f : RunFault) (notes : List ℕ) → IsMapFault why own f → AreNotesOfSecondMap options.mode.explain name own f notes
    → AreNotesOfOutputFault content options.mode.explain options.output_spec f notes → AreNotesForOptions content options input (Err f) notes
noted_of_map content options why input own name (run.Job j) notes may told output = absurd may
noted_of_map content options why input own name run.Read notes may told output = absurd may
noted_of_map content options why input own name run.Write notes may told output = absurd may
noted_of_map content options why input own name run.Memory notes may told output = told
noted_of_map content options why input own name run.Thread notes may told output = absurd may
noted_of_map content options why input own name (run.Refused n) notes may told output = absurd may
noted_of_map content options why input own name (run.Made n) notes may told output = absurd may
noted_of_map content options why input own name (run.Conflicts n) notes may told output = absurd may
noted_of_map content options why input own name (run.Differs n) notes may told output = absurd may
noted_of_map content options why input own name run.NoItem notes may told output = absurd may
noted_of_map content options why input own name run.NoType notes may told output = absurd may
noted_of_map content options why input own name run.NoClass notes may told output = absurd may
noted_of_map content options why input own name (run.SecondMap w s) notes may told output = output

output_is_noted : (content : List ℕ → Option (List ℕ)) (explain : Bool) (what : OutputSpec) (f : RunFault) (notes : List ℕ) → IsOutputFault content what f → AreNotesOfOutputFault content explain what f notes
    → (why : SecondMap) × (own : Option (List ℕ)) × (name : List ℕ) × IsMapFault why own f × AreNotesOfSecondMap explain name own f notes
output_is_noted content explain output_spec.Map f notes h told = absurd h
output_is_noted content explain (output_spec.Tree part) f notes h told = (second.Since, None, [], rw h tt, rw h told)
output_is_noted content explain (output_spec.Since words) f notes h told = (second.Since, content words.map.bytes.items, words.map.bytes.items, h, told)
output_is_noted content explain (output_spec.Changes words) f notes h told = (second.Since, content words.map.bytes.items, words.map.bytes.items, h, told)
output_is_noted content explain output_spec.AsCeph f notes h told = absurd h
output_is_noted content explain (output_spec.To words) f notes h told = (second.To, content words.map.bytes.items, words.map.bytes.items, h, told)

pub noted_as_wanted : (content : List ℕ → Option (List ℕ)) (options : Options) (input : Option (List ℕ)) (f : RunFault) (notes : List ℕ) → IsOutputFault content options.output_spec f → AreNotesOfOutputFault content options.mode.explain options.output_spec f notes
    → AreNotesForOptions content options input (Err f) notes
noted_as_wanted content options input f notes h told =
    let own = output_is_noted content options.mode.explain options.output_spec f notes h told in
    noted_of_map content options own.0 input own.1 own.2 f notes own.3 own.4 told
