use Rattle.crush_nodes.specs.Seen.{items_of}
use Rattle.crush_json.specs.ItemDocuments.{placed_documents}
use Rattle.crush_json.proofs.Listed.{array_done}
use Rattle.crush_json.proofs.buckets.push_items.Goals as goal

pub returns : goal.returns
returns g c =
    array_done (placed_documents 0 (items_of c.args.items.now)) c.end_array.result c.args.out.now c.begin_array.new.self c.push_each_item.new.out c.end_array.new.self c.in_ok-begin_array.ensures c.in_ok-push_each_item.ensures c.end_array.ensures
