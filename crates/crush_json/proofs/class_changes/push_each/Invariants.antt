use Rattle.std.proofs.Common.{◌≡◌, ◌++◌, take}
use Rattle.std.specs.Prelude.{flat_map}
use Rattle.crush_since.specs.ClassesSeen.{class_change_data}
use Rattle.crush_json.specs.RuleChanges.{class_change_document}
use Rattle.crush_json.specs.Tokens.{tokens_of}
use Rattle.crush_json.proofs.class_changes.push_each.Given as goal

abbrev pub invariant-loop-index : goal.invariant-loop-index
invariant-loop-index l = l.out ≡ l.fn.out ++ flat_map (λ x. tokens_of (class_change_document (class_change_data x))) (take l.index l.changes)
