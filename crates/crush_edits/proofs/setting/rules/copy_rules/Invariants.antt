use Rattle.std.proofs.Common.{◌≡◌, take}
use Rattle.std.specs.Prelude.{map}
use Rattle.crush_edits.specs.SettingSeen.{rule_data}
use Rattle.crush_edits.proofs.setting.rules.copy_rules.Given as goal

-- the rules so far are copied
abbrev pub invariant-loop-rule : goal.invariant-loop-rule
invariant-loop-rule l = map rule_data l.copies.items ≡ map rule_data (take l.rule-index l.rules)
