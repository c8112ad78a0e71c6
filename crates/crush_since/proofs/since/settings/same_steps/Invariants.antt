use Rattle.std.proofs.Common.{◌≡◌, true, take}
use Rattle.crush_edits.specs.SettingSeen.{step_data}
use Rattle.crush_since.specs.Settings.{same_step}
use Rattle.crush_compare.proofs.PairLaws.{same_seen}
use Rattle.crush_since.proofs.since.settings.same_steps.Given as goal

-- the two rules have the same steps at every index visited so far
abbrev pub invariant-loop-index : goal.invariant-loop-index
invariant-loop-index l = same_seen same_step step_data step_data (take l.index l.old) (take l.index l.new) ≡ true
