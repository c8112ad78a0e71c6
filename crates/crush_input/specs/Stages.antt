-- The stages before a job is parsed: the result of each stage, and the faults with which it may fail.
use Rattle.std.specs.Prelude.{◌≡◌, ℕ, List, Bool, true, Option}
use Rattle.crush_script.specs.Job.{JobData, JobStands}
use Rattle.crush_input.specs.declared.fault.RunFault.{RunFault}
use Rattle.crush_input.specs.declared.fault.RunFault.TheVariants as run
use Rattle.crush_reasons.specs.Place.{OriginData}
use Rattle.crush_input.specs.declared.aborted.ParsedJob.{ParsedJob}
use Rattle.crush_input.specs.Notes.{text_data, text_of}
use Rattle.crush_input.specs.Faults.{IsRefusal}

-- the faults with which reading the bytes may fail
abbrev pub IsInputFault : RunFault → Type 0
IsInputFault run.Read = Unit {0}
IsInputFault run.Memory = Unit {0}
IsInputFault fault = ⊥

-- the faults with which parsing a job may fail: the bytes aren't a job, or memory runs out
abbrev pub IsNoJob : Option (List ℕ) → RunFault → Type 0
IsNoJob all (run.Job fault) = IsRefusal all fault
IsNoJob all run.Memory = Unit {0}
IsNoJob all fault = ⊥

-- the faults with which reading and parsing a job may fail
abbrev pub IsReadFault : Option (List ℕ) → RunFault → Type 0
IsReadFault all run.Read = Unit {0}
IsReadFault all fault = IsNoJob all fault

-- the faults with which the check for refused calls may fail
abbrev pub IsStrictFault : RunFault → Type 0
IsStrictFault (run.Refused n) = Unit {0}
IsStrictFault fault = ⊥

-- the faults with which the check for created buckets may fail; it can only fail if `--no-make` is given
abbrev pub IsMadeFault : Bool → RunFault → Type 0
IsMadeFault no_make (run.Made n) = no_make ≡ true
IsMadeFault no_make fault = ⊥

-- the value `read` is the result of parsing the bytes of this job. It has this job, and it has the stored parts of the text (`text_of`) for these bytes, for the job's table and for the origin of each line
pub record IsParsedJob (explain : Bool) (origin : ℕ → OriginData) (bytes : List ℕ) (job : JobData) (read : ParsedJob) : Type 0 where
  pub stands : JobStands read.job job
  pub text : text_data read.text ≡ text_of explain origin bytes job.table
