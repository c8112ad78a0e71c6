use Rattle.crush_json.specs.Tokens.{tokens_of}
use Rattle.crush_json.specs.Values.{whole}
use Rattle.crush_nodes.specs.Seen.{node_id}
use Rattle.crush_units.specs.Id.{item_number}
use Rattle.std.proofs.Common.{take, ◌++◌, ◌≡◌}
use Rattle.std.specs.Prelude.{flat_map}
use Rattle.crush_json.proofs.tree.push_each_id.Given as goal

abbrev pub invariant-loop-node : goal.invariant-loop-node
invariant-loop-node g l = l.out ≡ l.fn.out ++ flat_map (λ n. tokens_of (whole (item_number (node_id n)))) (take l.node-index l.nodes)
