-- The faults with which a run may end before it has a history.
use Rattle.crush_input.specs.declared.fault.RunFault.{RunFault}
use Rattle.crush_input.specs.declared.fault.RunFault.TheVariants as run

-- the faults with which a run may end before it has a history: all faults except for those of the checks that follow after the scripts, and for the fault of a failed write. One of these faults is `Memory`. With `Memory`, a run may also end later, if memory runs out after the scripts
abbrev pub IsEarlyFault : RunFault → Type 0
IsEarlyFault run.Write = ⊥
IsEarlyFault (run.Refused n) = ⊥
IsEarlyFault (run.Made n) = ⊥
IsEarlyFault (run.Conflicts n) = ⊥
IsEarlyFault (run.Differs n) = ⊥
IsEarlyFault run.NoItem = ⊥
IsEarlyFault run.NoType = ⊥
IsEarlyFault run.NoClass = ⊥
IsEarlyFault fault = Unit {0}
