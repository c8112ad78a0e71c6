use Rattle.std.proofs.Common.{◌≡◌, None, ◌==◌, take, map}
use Rattle.std.specs.Prelude.{find}
use Rattle.crush_edits.specs.Setting.{RuleData}
use Rattle.crush_edits.specs.SettingSeen.{rule_data}
use Rattle.crush_json.proofs.rules.rule_of.Given as goal

-- none of the rules so far has the id
abbrev pub invariant-loop-rule : goal.invariant-loop-rule
invariant-loop-rule l = find (λ (r : RuleData). r.id == l.id) (map rule_data (take l.rule-index l.rules)) ≡ None
