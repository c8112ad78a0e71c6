use Rattle.std.proofs.Common.{List, [], ◌∷◌, ◌++◌, sym, subst, map}
use Rattle.std.specs.Prelude.{OnOk, ◌≡◌, codes}
use Rattle.json.specs.Token.{Token, key}
use Rattle.crush_nodes.specs.Seen.{shadow_data}
use Rattle.crush_units.specs.declared.id.ItemId.{ItemId}
use Rattle.crush_json.specs.ClassIds.{class_ids_document}
use Rattle.crush_json.specs.PairDocument.{class_ids_tokens_if}
use Rattle.crush_json.specs.Tokens.{tokens_of}
use Rattle.crush_json.proofs.Chains.{then}
use Rattle.crush_json.proofs.changes.push_class_ids_if.Goals as goal

pub returns-in_ok-key-in-Bucket : goal.returns-in_ok-key-in-Bucket
returns-in_ok-key-in-Bucket g c =
    let r = c.push_class_ids.result in
    let ids = map shadow_data c.args.class_ids.now in
    let name : List Token = key (codes "class_ids") ∷ [] in
    subst (λ (i : ItemId). OnOk r (c.push_class_ids.new.out ≡ c.args.out.now ++ class_ids_tokens_if i ids)) (sym c.in-Bucket.is)
    (then r c.args.out.now c.key.new.self c.push_class_ids.new.out name (tokens_of (class_ids_document ids)) c.in_ok-key-in-Bucket.ensures c.push_class_ids.ensures)
