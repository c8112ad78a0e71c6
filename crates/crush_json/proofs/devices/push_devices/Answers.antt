use Rattle.std.proofs.Common.{◌++◌, List, ap, map, ◌∙◌}
use Rattle.json.specs.Token.{Token}
use Rattle.crush_nodes.specs.Seen.{leaf_data}
use Rattle.crush_json.specs.ItemDocuments.{leaf_document}
use Rattle.crush_json.proofs.Listed.{array_done, mapped}
use Rattle.crush_json.proofs.devices.push_devices.Goals as goal

pub returns : goal.returns
returns g c =
    array_done (map (λ d. leaf_document (leaf_data d.now)) c.args.devices.now) c.end_array.result c.args.out.now c.begin_array.new.self c.push_each.new.out c.end_array.new.self c.in_ok-begin_array.ensures
    (c.in_ok-push_each.ensures ∙ ap (λ (l : List Token). c.begin_array.new.self ++ l) (mapped (λ d. leaf_document (leaf_data d.now)) c.args.devices.now)) c.end_array.ensures
