use Rattle.std.proofs.Common.{◌≡◌, ◌++◌, take, map}
use Rattle.std.specs.Prelude.{flat_map}
use Rattle.crush_edits.specs.SettingSeen.{rule_data}
use Rattle.crush_since.specs.Rules.{gone_rule}
use Rattle.crush_since.specs.RulesSeen.{rule_change_data}
use Rattle.crush_since.proofs.since.rules.push_gone_rules.Given as goal

abbrev pub invariant-loop-rule : goal.invariant-loop-rule
invariant-loop-rule l = map rule_change_data l.changes.items ≡ map rule_change_data l.fn.changes.items ++ flat_map (gone_rule (map rule_data l.after)) (map rule_data (take l.rule-index l.before))
