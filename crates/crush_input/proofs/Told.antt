-- What is true of the bytes that were read of a job is also true of all bytes that could be read.
use Rattle.std.proofs.Common.{◌≡◌, ℕ, ◌≤◌, Bool, true, false, List, Option, Some, None, Result, Ok, Err, length, take, sym, ap, subst, ◌∙◌, arith}
use Rattle.std.specs.Prelude.{IfOk, IfSome}
use mathlib.Core.Logic.{dite}
use native.Mathlib.Decide.{dec_le}
use Rattle.std.proofs.lemmas.List.{take_all, length-take}
use Rattle.crush_units.specs.declared.limits.TheConstants.{LONGEST_JOB}
use Rattle.crush_script.specs.Job.{HasJob, IsJob, IsJobFault, JobData}
use Rattle.crush_script.specs.declared.fault.JobFault.{JobFault}
use Rattle.crush_script.specs.declared.fault.JobFault.TheVariants.{BadLine, NoSuchCommand, OpenBatch, TooManyOperators, DuplicateOperator, Text, OutOfMemory, TooLong, TooManyCalls}
use Rattle.crush_input.specs.declared.input.TheConstants.{MOST_BYTES}
use Rattle.crush_input.specs.Faults.{IsRefusal}
use Rattle.crush_input.specs.declared.fault.RunFault.TheVariants as run
use Rattle.crush_input.specs.declared.fault.RunFault.{RunFault}
use Rattle.crush_input.specs.Input.{IsInput}
use Rattle.crush_input.specs.Stages.{IsInputFault, IsNoJob, IsReadFault, IsParsedJob}
use Rattle.crush_input.specs.Notes.{bytes_kept}
use Rattle.crush_input.specs.declared.aborted.ParsedJob.{ParsedJob}
use Rattle.crush_reasons.specs.Place.{OriginData}
use Rattle.crush_input.proofs.Noted.{ComeFrom}

-- if the bytes that were read are the first MOST_BYTES bytes of `all`, then they are all bytes of `all` if they or `all` are no longer than a job may be
input_of_take : (bytes all : List ℕ) → bytes ≡ take MOST_BYTES all → IsInput bytes all
input_of_take bytes all e = record {
  read = λ short. let few : length all ≤ MOST_BYTES = omega (arith, short, ap length e, length-take MOST_BYTES all) in e ∙ take_all MOST_BYTES all few;
  whole = λ short. let few : length all ≤ MOST_BYTES = omega (arith, short) in e ∙ take_all MOST_BYTES all few;
}

pub known_of_take : (all : Option (List ℕ)) (bytes : List ℕ) → IfSome all (λ xs. bytes ≡ take MOST_BYTES xs) → IfSome all (IsInput bytes)
known_of_take None bytes e = tt
known_of_take (Some xs) bytes e = input_of_take bytes xs e

-- if the bytes of a file are known, the open file gives these bytes
pub known_through : (content given : Option (List ℕ)) (bytes : List ℕ) → IfSome content (λ all. given ≡ Some all) → IfSome given (IsInput bytes) → IfSome content (IsInput bytes)
known_through None given bytes tells read = tt
known_through (Some all) given bytes tells read = subst (λ (o : Option (List ℕ)). IfSome o (IsInput bytes)) tells read

-- if the bytes that were read are a job, they are all bytes, so all bytes are a job
pub has_job : (all : Option (List ℕ)) (bytes : List ℕ) → IfSome all (IsInput bytes) → HasJob bytes → IfSome all HasJob
has_job None bytes input has = tt
has_job (Some xs) bytes input has = (has.0, subst (λ (z : List ℕ). IsJob z has.0) (input.read has.1.short) has.1)

pub has_job_where_done : {X E : Type 0} (r : Result X E) (all : Option (List ℕ)) (bytes : List ℕ) → IfSome all (IsInput bytes) → IfOk r (λ _. HasJob bytes) → IfOk r (λ _. IfSome all HasJob)
has_job_where_done (Ok x) all bytes input has = has_job all bytes input has
has_job_where_done (Err f) all bytes input has = tt

-- if all bytes are a job, the bytes that were read are the same job
pub job_of_all : (all : Option (List ℕ)) (bytes xs : List ℕ) (job : JobData) → IfSome all (IsInput bytes) → all ≡ Some xs → IsJob xs job → IsJob bytes job
job_of_all all bytes xs job input is_xs is =
    let same : IsInput bytes xs = subst (λ (o : Option (List ℕ)). IfSome o (IsInput bytes)) is_xs input in
    subst (λ (z : List ℕ). IsJob z job) (sym (same.whole is.short)) is

-- if all bytes are a job, they are the bytes that were read
pub same_of_job : (all : Option (List ℕ)) (bytes xs : List ℕ) (job : JobData) → IfSome all (IsInput bytes) → all ≡ Some xs → IsJob xs job → bytes ≡ xs
same_of_job all bytes xs job input is_xs is =
    let same : IsInput bytes xs = subst (λ (o : Option (List ℕ)). IfSome o (IsInput bytes)) is_xs input in
    same.whole is.short

-- a fault of the bytes that were read is also a fault of all bytes
fault_of_all : (bytes xs : List ℕ) (f : JobFault) → IsInput bytes xs → IsJobFault bytes f → IsJobFault xs f
fault_of_all bytes xs (BadLine n why) input h = subst (λ (z : List ℕ). IsJobFault z (BadLine n why)) (input.read h.short) h
fault_of_all bytes xs (NoSuchCommand n) input h = subst (λ (z : List ℕ). IsJobFault z (NoSuchCommand n)) (input.read h.short) h
fault_of_all bytes xs (OpenBatch n) input h = subst (λ (z : List ℕ). IsJobFault z (OpenBatch n)) (input.read h.short) h
fault_of_all bytes xs (TooManyOperators n) input h = subst (λ (z : List ℕ). IsJobFault z (TooManyOperators n)) (input.read h.short) h
fault_of_all bytes xs (DuplicateOperator n) input h = subst (λ (z : List ℕ). IsJobFault z (DuplicateOperator n)) (input.read h.short) h
fault_of_all bytes xs (TooManyCalls n) input h = subst (λ (z : List ℕ). IsJobFault z (TooManyCalls n)) (input.read h.short) h
fault_of_all bytes xs (Text f) input h = subst (λ (z : List ℕ). IsJobFault z (Text f)) (input.read h.short) h
fault_of_all bytes xs TooLong input h = dite (dec_le (length xs) LONGEST_JOB) (λ few. let same = ap length (input.whole few) in absurd (omega (arith, same, h, few))) (λ many. omega (arith, many))
fault_of_all bytes xs OutOfMemory input h = subst (λ (z : List ℕ). IsJobFault z OutOfMemory) (input.read h.short) h

pub refusal_of_all : (all : Option (List ℕ)) (bytes : List ℕ) (f : JobFault) → IfSome all (IsInput bytes) → IsRefusal (Some bytes) f → IsRefusal all f
refusal_of_all None bytes f input h = (h.0, tt)
refusal_of_all (Some xs) bytes f input h = (h.0, fault_of_all bytes xs f input h.1)

-- if a run fails because the bytes that were read aren't a job, then it may also fail so for all bytes
pub no_job_of_all : (f : RunFault) (all : Option (List ℕ)) (bytes : List ℕ) → IfSome all (IsInput bytes) → IsNoJob (Some bytes) f → IsReadFault all f
no_job_of_all (run.Job f) all bytes input h = refusal_of_all all bytes f input h
no_job_of_all run.Read all bytes input h = tt
no_job_of_all run.Write all bytes input h = absurd h
no_job_of_all run.Memory all bytes input h = tt
no_job_of_all run.Thread all bytes input h = absurd h
no_job_of_all (run.Refused n) all bytes input h = absurd h
no_job_of_all (run.Made n) all bytes input h = absurd h
no_job_of_all (run.Conflicts n) all bytes input h = absurd h
no_job_of_all (run.Differs n) all bytes input h = absurd h
no_job_of_all run.NoItem all bytes input h = absurd h
no_job_of_all run.NoType all bytes input h = absurd h
no_job_of_all run.NoClass all bytes input h = absurd h
no_job_of_all (run.SecondMap w s) all bytes input h = absurd h

pub read_fault_of_input : (f : RunFault) (all : Option (List ℕ)) → IsInputFault f → IsReadFault all f
read_fault_of_input (run.Job f) all h = absurd h
read_fault_of_input run.Read all h = tt
read_fault_of_input run.Write all h = absurd h
read_fault_of_input run.Memory all h = tt
read_fault_of_input run.Thread all h = absurd h
read_fault_of_input (run.Refused n) all h = absurd h
read_fault_of_input (run.Made n) all h = absurd h
read_fault_of_input (run.Conflicts n) all h = absurd h
read_fault_of_input (run.Differs n) all h = absurd h
read_fault_of_input run.NoItem all h = absurd h
read_fault_of_input run.NoType all h = absurd h
read_fault_of_input run.NoClass all h = absurd h
read_fault_of_input (run.SecondMap w s) all h = absurd h

-- what is stored of the bytes that were read is what is stored of all bytes, if these are a job, because their lines come from the same files
pub weighed_of_all : {E : Type 0} (explain : Bool) (o p : ℕ → OriginData) (all : Option (List ℕ)) (bytes xs : List ℕ) (job : JobData) (r : Result ParsedJob E) → IfSome all (ComeFrom o p bytes) → all ≡ Some xs → length bytes ≤ LONGEST_JOB → bytes ≡ xs
    → IfOk r (IsParsedJob explain o bytes job) → IfOk r (IsParsedJob explain p xs job)
weighed_of_all explain o p all bytes xs job r from is_xs short same parsed_job =
    let come : ComeFrom o p bytes xs = subst (λ (a : Option (List ℕ)). IfSome a (ComeFrom o p bytes)) is_xs from in
    let origins : o ≡ p = come.1 short in
    subst (λ (z : List ℕ). IfOk r (IsParsedJob explain p z job)) same (subst (λ (q : ℕ → OriginData). IfOk r (IsParsedJob explain q bytes job)) origins parsed_job)

-- at most as many bytes are stored as a job may have
pub kept_short : (explain : Bool) (bytes : List ℕ) → length bytes ≤ LONGEST_JOB → length (bytes_kept explain bytes) ≤ LONGEST_JOB
kept_short true bytes short = short
kept_short false bytes short = omega arith
