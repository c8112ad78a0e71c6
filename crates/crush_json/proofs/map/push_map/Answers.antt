use Rattle.crush_json.proofs.Chains.{then, as_told, five}
use Rattle.crush_json.specs.MapDocument.{bucket_documents, device_documents, kind_documents, map_document, tunables_document}
use Rattle.crush_json.specs.RuleDocument.{rule_documents}
use Rattle.crush_json.specs.Tokens.{member_tokens, tokens_of}
use Rattle.crush_json.specs.Values.{list}
use Rattle.json.specs.Token.{Token, begin_object, end_object}
use Rattle.std.proofs.Common.{List, [], ◌∷◌, ◌++◌, ap}
use Rattle.std.specs.Prelude.{codes}
use Rattle.crush_json.proofs.map.push_map.Goals as goal

pub returns : goal.returns
unfolding map_document
returns g c = λ t stands.
    let r = c.end_object.result in
    let s = c.args.map.now.setting in
    let opens : List Token = begin_object ∷ [] in
    let items : List Token = member_tokens (codes "buckets") (list (bucket_documents s t)) ++ member_tokens (codes "devices") (list (device_documents t)) in
    let setting : List Token = member_tokens (codes "rules") (list (rule_documents s t)) ++ member_tokens (codes "tunables") (tunables_document s) ++ member_tokens (codes "types") (list (kind_documents s)) in
    let closes : List Token = end_object ∷ [] in
    as_told r c.args.out.now c.end_object.new.self (opens ++ (items ++ (setting ++ closes))) (tokens_of (map_document s t))
    (then r c.args.out.now c.begin_object.new.self c.end_object.new.self opens (items ++ (setting ++ closes)) c.in_ok-begin_object.ensures (then r c.begin_object.new.self c.push_items.new.out c.end_object.new.self items (setting ++ closes) (c.in_ok-push_items.ensures t stands) (then r c.push_items.new.out c.push_setting.new.out c.end_object.new.self setting closes (c.in_ok-push_setting.ensures t stands) c.end_object.ensures)))
    (ap (λ (l : List Token). begin_object ∷ l) (five (member_tokens (codes "buckets") (list (bucket_documents s t))) (member_tokens (codes "devices") (list (device_documents t))) (member_tokens (codes "rules") (list (rule_documents s t))) (member_tokens (codes "tunables") (tunables_document s)) (member_tokens (codes "types") (list (kind_documents s))) closes))
