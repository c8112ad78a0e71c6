use Rattle.std.proofs.Common.{take}
use Rattle.crush_edits.specs.RulesTold.{ComeAsTaken}
use Rattle.crush_edits.proofs.setting.rules.take_all.Given as goal

-- the buckets that the steps so far take are in the set
abbrev pub invariant-loop-step : goal.invariant-loop-step
invariant-loop-step l = ComeAsTaken (take l.step-index l.steps) l.fn.taken l.taken
