use Rattle.std.proofs.Common.{◌≡◌, ◌++◌, take}
use Rattle.std.specs.Prelude.{flat_map}
use Rattle.crush_since.specs.RulesSeen.{rule_change_data}
use Rattle.crush_json.specs.RuleChanges.{rule_change_document}
use Rattle.crush_json.specs.Tokens.{tokens_of}
use Rattle.crush_json.proofs.rule_changes.push_each.Given as goal

abbrev pub invariant-loop-index : goal.invariant-loop-index
invariant-loop-index l = l.out ≡ l.fn.out ++ flat_map (λ x. tokens_of (rule_change_document (rule_change_data x))) (take l.index l.changes)
