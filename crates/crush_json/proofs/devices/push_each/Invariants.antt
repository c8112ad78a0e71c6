use Rattle.std.proofs.Common.{◌≡◌, ◌++◌, take}
use Rattle.std.specs.Prelude.{flat_map}
use Rattle.crush_nodes.specs.Seen.{leaf_data}
use Rattle.crush_json.specs.ItemDocuments.{leaf_document}
use Rattle.crush_json.specs.Tokens.{tokens_of}
use Rattle.crush_json.proofs.devices.push_each.Given as goal

abbrev pub invariant-loop-device : goal.invariant-loop-device
invariant-loop-device g l = l.out ≡ l.fn.out ++ flat_map (λ d. tokens_of (leaf_document (leaf_data d.now))) (take l.device-index l.devices)
