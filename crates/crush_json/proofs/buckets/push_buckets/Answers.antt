use Rattle.std.proofs.Common.{◌++◌, List, ap, map, ◌∙◌}
use Rattle.json.specs.Token.{Token}
use Rattle.crush_json.specs.ItemDocuments.{own_document}
use Rattle.crush_json.proofs.Listed.{array_done, mapped}
use Rattle.crush_json.proofs.buckets.push_buckets.Goals as goal

pub returns : goal.returns
returns g c =
    array_done (map (λ b. own_document c.args.setting.now b.now) c.args.buckets.now) c.end_array.result c.args.out.now c.begin_array.new.self c.push_each.new.out c.end_array.new.self c.in_ok-begin_array.ensures
    (c.in_ok-push_each.ensures ∙ ap (λ (l : List Token). c.begin_array.new.self ++ l) (mapped (λ b. own_document c.args.setting.now b.now) c.args.buckets.now)) c.end_array.ensures
