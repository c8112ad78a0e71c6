use Rattle.std.proofs.Common.{◌≡◌, take, map}
use Rattle.crush_edits.specs.SettingSeen.{rule_data}
use Rattle.crush_json.proofs.rules.ids_of.Given as goal

abbrev pub invariant-loop-rule : goal.invariant-loop-rule
invariant-loop-rule l = l.ids.items ≡ map (λ r. (rule_data r).id) (take l.rule-index l.rules)
