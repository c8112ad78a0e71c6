use Rattle.std.proofs.Common.{◌≡◌, ◌++◌, take}
use Rattle.std.specs.Prelude.{flat_map}
use Rattle.crush_nodes.specs.Seen.{shadow_data}
use Rattle.crush_json.specs.ClassIds.{class_id_document}
use Rattle.crush_json.specs.Tokens.{tokens_of}
use Rattle.crush_json.proofs.class_ids.push_each.Given as goal

abbrev pub invariant-loop-id : goal.invariant-loop-id
invariant-loop-id g l = l.out ≡ l.fn.out ++ flat_map (λ x. tokens_of (class_id_document (shadow_data x))) (take l.id-index l.ids)
