-- Faults of a run: the faults for the bytes that were read are also faults for all bytes of the input.
use Rattle.std.proofs.Common.{◌≡◌, ℕ, List, Option, Some, Result, Ok, Err}
use Rattle.std.specs.Prelude.{IfOk, IfErr, IfSome}
use Rattle.crush_script.specs.Job.{HasJob}
use Rattle.crush_options.specs.declared.parsed_options.Mode.{Mode}
use Rattle.crush_input.specs.declared.fault.RunFault.TheVariants as run
use Rattle.crush_input.specs.declared.fault.RunFault.{RunFault}
use Rattle.crush_input.specs.declared.summary.Summary.{Summary}
use Rattle.crush_input.specs.Input.{IsInput}
use Rattle.crush_input.proofs.Told.{has_job, refusal_of_all}
use Rattle.crush_run.specs.Run.{IsRunFault}
use Rattle.crush_input.specs.Stages.{IsInputFault, IsNoJob}
use Rattle.crush_run.specs.Stages.{IsOutcomeFault, IsScriptsFault, IsWritingFault}

-- a fault of the bytes that were read is a fault of all bytes
pub run_fault_of_all : (mode : Mode) (r : Result Summary RunFault) (all : Option (List ℕ)) (bytes : List ℕ) → IfSome all (IsInput bytes) → IfErr r (IsRunFault mode (Some bytes)) → IfErr r (IsRunFault mode all)
run_fault_of_all mode (Ok x) all bytes input h = tt
run_fault_of_all mode (Err (run.Job f)) all bytes input h = refusal_of_all all bytes f input h
run_fault_of_all mode (Err run.Read) all bytes input h = tt
run_fault_of_all mode (Err run.Write) all bytes input h = has_job all bytes input h
run_fault_of_all mode (Err run.Memory) all bytes input h = tt
run_fault_of_all mode (Err run.Thread) all bytes input h = (h.0, has_job all bytes input h.1)
run_fault_of_all mode (Err (run.Refused n)) all bytes input h = (h.0, has_job all bytes input h.1)
run_fault_of_all mode (Err (run.Made n)) all bytes input h = (h.0, has_job all bytes input h.1)
run_fault_of_all mode (Err (run.Conflicts n)) all bytes input h = (h.0, has_job all bytes input h.1)
run_fault_of_all mode (Err (run.Differs n)) all bytes input h = (h.0, has_job all bytes input h.1)
run_fault_of_all mode (Err run.NoItem) all bytes input h = has_job all bytes input h
run_fault_of_all mode (Err run.NoType) all bytes input h = has_job all bytes input h
run_fault_of_all mode (Err run.NoClass) all bytes input h = has_job all bytes input h
run_fault_of_all mode (Err (run.SecondMap w s)) all bytes input h = absurd h

-- if a job was read, then the bytes are a job
pub is_job : (r : Result Summary RunFault) (bytes : List ℕ) → HasJob bytes → IfOk r (λ _. HasJob bytes)
is_job (Err f) bytes has = tt
is_job (Ok x) bytes has = has

-- the faults of the run of a job are faults of its bytes
pub run_fault_of_job : (mode : Mode) (r : Result Summary RunFault) (all : Option (List ℕ)) → IfSome all HasJob → IfErr r (IsOutcomeFault mode) → IfErr r (IsRunFault mode all)
run_fault_of_job mode (Ok x) all has h = tt
run_fault_of_job mode (Err (run.Job f)) all has h = absurd h
run_fault_of_job mode (Err run.Read) all has h = absurd h
run_fault_of_job mode (Err run.Write) all has h = has
run_fault_of_job mode (Err run.Memory) all has h = tt
run_fault_of_job mode (Err run.Thread) all has h = (h, has)
run_fault_of_job mode (Err (run.Refused n)) all has h = (h, has)
run_fault_of_job mode (Err (run.Made n)) all has h = (h, has)
run_fault_of_job mode (Err (run.Conflicts n)) all has h = (h, has)
run_fault_of_job mode (Err (run.Differs n)) all has h = (h, has)
run_fault_of_job mode (Err run.NoItem) all has h = has
run_fault_of_job mode (Err run.NoType) all has h = has
run_fault_of_job mode (Err run.NoClass) all has h = has
run_fault_of_job mode (Err (run.SecondMap w s)) all has h = absurd h

-- a fault of running the scripts is a fault with which a run may fail after its job was parsed
pub outcome_fault_of_scripts : (mode : Mode) (f : RunFault) → IsScriptsFault mode.in_turn f → IsOutcomeFault mode f
outcome_fault_of_scripts mode (run.Job f) h = h
outcome_fault_of_scripts mode run.Read h = h
outcome_fault_of_scripts mode run.Write h = absurd h
outcome_fault_of_scripts mode run.Memory h = h
outcome_fault_of_scripts mode run.Thread h = h
outcome_fault_of_scripts mode (run.Refused n) h = absurd h
outcome_fault_of_scripts mode (run.Made n) h = absurd h
outcome_fault_of_scripts mode (run.Conflicts n) h = absurd h
outcome_fault_of_scripts mode (run.Differs n) h = absurd h
outcome_fault_of_scripts mode run.NoItem h = absurd h
outcome_fault_of_scripts mode run.NoType h = absurd h
outcome_fault_of_scripts mode run.NoClass h = absurd h
outcome_fault_of_scripts mode (run.SecondMap w s) h = h

-- a fault that is possible after there is a history is also such a fault
pub outcome_fault_of_writing : (mode : Mode) (r : Result Summary RunFault) → IfErr r (IsWritingFault mode) → IfErr r (IsOutcomeFault mode)
outcome_fault_of_writing mode (Ok s) h = tt
outcome_fault_of_writing mode (Err (run.Job f)) h = h
outcome_fault_of_writing mode (Err run.Read) h = h
outcome_fault_of_writing mode (Err run.Write) h = h
outcome_fault_of_writing mode (Err run.Memory) h = h
outcome_fault_of_writing mode (Err run.Thread) h = absurd h
outcome_fault_of_writing mode (Err (run.Refused n)) h = h
outcome_fault_of_writing mode (Err (run.Made n)) h = h
outcome_fault_of_writing mode (Err (run.Conflicts n)) h = h
outcome_fault_of_writing mode (Err (run.Differs n)) h = h
outcome_fault_of_writing mode (Err run.NoItem) h = h
outcome_fault_of_writing mode (Err run.NoType) h = h
outcome_fault_of_writing mode (Err run.NoClass) h = h
outcome_fault_of_writing mode (Err (run.SecondMap w s)) h = h

-- a fault of reading is possible with any bytes
pub run_fault_of_input : (mode : Mode) (f : RunFault) (all : Option (List ℕ)) → IsInputFault f → IsRunFault mode all f
run_fault_of_input mode (run.Job f) all h = absurd h
run_fault_of_input mode run.Read all h = tt
run_fault_of_input mode run.Write all h = absurd h
run_fault_of_input mode run.Memory all h = tt
run_fault_of_input mode run.Thread all h = absurd h
run_fault_of_input mode (run.Refused n) all h = absurd h
run_fault_of_input mode (run.Made n) all h = absurd h
run_fault_of_input mode (run.Conflicts n) all h = absurd h
run_fault_of_input mode (run.Differs n) all h = absurd h
run_fault_of_input mode run.NoItem all h = absurd h
run_fault_of_input mode run.NoType all h = absurd h
run_fault_of_input mode run.NoClass all h = absurd h
run_fault_of_input mode (run.SecondMap w s) all h = absurd h

-- a fault with which parsing a job may fail is a fault with which a run may fail
pub run_fault_of_no_job : (mode : Mode) (f : RunFault) (all : Option (List ℕ)) → IsNoJob all f → IsRunFault mode all f
run_fault_of_no_job mode (run.Job f) all h = h
run_fault_of_no_job mode run.Read all h = tt
run_fault_of_no_job mode run.Write all h = absurd h
run_fault_of_no_job mode run.Memory all h = tt
run_fault_of_no_job mode run.Thread all h = absurd h
run_fault_of_no_job mode (run.Refused n) all h = absurd h
run_fault_of_no_job mode (run.Made n) all h = absurd h
run_fault_of_no_job mode (run.Conflicts n) all h = absurd h
run_fault_of_no_job mode (run.Differs n) all h = absurd h
run_fault_of_no_job mode run.NoItem all h = absurd h
run_fault_of_no_job mode run.NoType all h = absurd h
run_fault_of_no_job mode run.NoClass all h = absurd h
run_fault_of_no_job mode (run.SecondMap w s) all h = absurd h
