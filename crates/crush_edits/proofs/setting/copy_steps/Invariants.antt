use Rattle.std.proofs.Common.{◌≡◌, take}
use Rattle.crush_edits.proofs.setting.copy_steps.Given as goal

-- the steps so far are copied
abbrev pub invariant-loop-step : goal.invariant-loop-step
invariant-loop-step l = l.copies.items ≡ take l.step-index l.steps
