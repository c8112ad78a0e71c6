use Rattle.crush_json.proofs.Listed.{array_done, mapped_seen}
use Rattle.crush_json.specs.Values.{whole}
use Rattle.crush_nodes.specs.Seen.{node_id}
use Rattle.crush_units.specs.Id.{item_number}
use Rattle.json.specs.Token.{Token}
use Rattle.std.proofs.Common.{List, ap, map, ◌++◌, ◌∙◌}
use Rattle.crush_json.proofs.tree.push_ids.Goals as goal

pub returns : goal.returns
returns g c =
    array_done (map (λ i. whole (item_number i)) (map node_id c.args.nodes.now)) c.end_array.result c.args.out.now c.begin_array.new.self c.push_each_id.new.out c.end_array.new.self c.in_ok-begin_array.ensures
    (c.in_ok-push_each_id.ensures ∙ ap (λ (l : List Token). c.begin_array.new.self ++ l) (mapped_seen node_id (λ i. whole (item_number i)) c.args.nodes.now)) c.end_array.ensures
