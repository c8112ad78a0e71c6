use Rattle.crush_json.proofs.Chains.{then, as_told}
use Rattle.crush_json.specs.ItemDocuments.{leaf_document, own_document}
use Rattle.crush_nodes.specs.Seen.{leaf_data}
use Rattle.crush_json.specs.MapDocument.{bucket_documents, device_documents}
use Rattle.crush_json.specs.Tokens.{member_tokens, tokens_of}
use Rattle.crush_json.specs.Values.{list}
use Rattle.crush_model.specs.Stands.{Stands}
use Rattle.json.specs.Token.{Token, key}
use Rattle.std.proofs.Common.{List, [], ◌∷◌, ◌++◌, ap, map, refl, sym, subst, ◌∙◌}
use Rattle.std.specs.Prelude.{codes}
use Rattle.crush_json.proofs.map.push_items.Goals as goal

pub returns : goal.returns
returns g c = λ t stands.
    let r = c.push_devices.result in
    let s = c.args.map.now.setting in
    let here = subst (λ f. Stands f t) (sym c.forest.ensures) stands in
    let are_buckets = (λ i. map (λ b. own_document (c.setting.ensures i) b.now) (c.as_slice.ensures.value i)) ∙ c.in_ok-buckets.ensures.documents s t here in
    let are_devices = ap (map (λ d. leaf_document (leaf_data d.now))) c.as_slice-2.ensures.value ∙ c.in_ok-devices.ensures t (subst (λ f. Stands f t) (sym c.forest-2.ensures) stands) in
    let first : List Token = key (codes "buckets") ∷ [] in
    let buckets : List Token = tokens_of (list (bucket_documents s t)) in
    let second : List Token = key (codes "devices") ∷ [] in
    let devices : List Token = tokens_of (list (device_documents t)) in
    as_told r c.args.out.now c.push_devices.new.out (first ++ (buckets ++ (second ++ devices))) (member_tokens (codes "buckets") (list (bucket_documents s t)) ++ member_tokens (codes "devices") (list (device_documents t)))
    (then r c.args.out.now c.key.new.self c.push_devices.new.out first (buckets ++ (second ++ devices)) c.in_ok-key.ensures (then r c.key.new.self c.push_buckets.new.out c.push_devices.new.out buckets (second ++ devices) (c.in_ok-push_buckets.ensures ∙ ap (λ ds. c.key.new.self ++ tokens_of (list ds)) are_buckets) (then r c.push_buckets.new.out c.key-2.new.self c.push_devices.new.out second devices c.in_ok-key-2.ensures (as_told r c.key-2.new.self c.push_devices.new.out _ devices c.push_devices.ensures (ap (λ ds. tokens_of (list ds)) are_devices)))))
    refl
