use Rattle.std.proofs.Common.{◌≡◌, true, take}
use Rattle.crush_edits.specs.SettingSeen.{rule_data}
use Rattle.crush_since.specs.Settings.{same_rule}
use Rattle.crush_compare.proofs.PairLaws.{same_seen}
use Rattle.crush_since.proofs.since.settings.same_rules.Given as goal

-- the two lists have the same rules at every index visited so far
abbrev pub invariant-loop-index : goal.invariant-loop-index
invariant-loop-index l = same_seen same_rule rule_data rule_data (take l.index l.old) (take l.index l.new) ≡ true
