-- The faults of a writer and of a job, as faults of a run. If memory ran out, the fault of the run is `Memory`, whatever the memory was needed for.
use Rattle.std.specs.Prelude.{◌≡◌, ℕ, List, Option, false, IfSome}
use Rattle.crush_units.specs.declared.write.WriteFault.{WriteFault}
use Rattle.crush_units.specs.declared.write.WriteFault.TheVariants as write
use Rattle.crush_script.specs.Fault.{lacks_memory}
use Rattle.crush_script.specs.Job.{IsJobFault}
use Rattle.crush_script.specs.declared.fault.JobFault.{JobFault}
use Rattle.crush_input.specs.declared.fault.RunFault.{RunFault}
use Rattle.crush_input.specs.declared.fault.RunFault.TheVariants as run

-- the fault with which a run ends because a writer failed with this fault
abbrev pub of_write : WriteFault → RunFault
of_write write.Write = run.Write
of_write write.OutOfMemory = run.Memory

-- whether a run may end with this fault of its job. The fault must not say that memory ran out, neither for the map's text nor for the scripts. If the job's bytes are known, they must have this fault
abbrev pub IsRefusal : Option (List ℕ) → JobFault → Type 0
IsRefusal all fault = (lacks_memory fault ≡ false) × IfSome all (λ bytes. IsJobFault bytes fault)
