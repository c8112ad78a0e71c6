use Rattle.std.proofs.Common.{List, ◌++◌, ap, ◌∙◌, map}
use Rattle.json.specs.Token.{Token}
use Rattle.crush_nodes.specs.Seen.{shadow_data}
use Rattle.crush_json.specs.ClassIds.{class_id_document}
use Rattle.crush_json.proofs.Listed.{array_done, mapped_seen}
use Rattle.crush_json.proofs.class_ids.push_class_ids.Goals as goal

pub returns : goal.returns
returns g c =
    array_done (map class_id_document (map shadow_data c.args.ids.now)) c.end_array.result c.args.out.now c.begin_array.new.self c.push_each.new.out c.end_array.new.self c.in_ok-begin_array.ensures
    (c.in_ok-push_each.ensures ∙ ap (λ (l : List Token). c.begin_array.new.self ++ l) (mapped_seen shadow_data class_id_document c.args.ids.now)) c.end_array.ensures
