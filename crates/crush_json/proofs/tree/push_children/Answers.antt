use Rattle.std.proofs.Common.{List, [], ◌∷◌, ◌++◌, ap, sym, subst}
use Rattle.std.specs.Prelude.{OnOk, ◌≡◌, codes, map}
use Rattle.json.specs.Token.{Token, key}
use Rattle.crush_nodes.specs.Seen.{node_id}
use Rattle.crush_units.specs.declared.id.ItemId.{ItemId}
use Rattle.crush_units.specs.declared.id.ItemId.TheVariants.{Bucket}
use Rattle.crush_json.specs.Tokens.{children_tokens, tokens_of}
use Rattle.crush_json.specs.TreeDocument.{id_values}
use Rattle.crush_json.specs.Values.{list}
use Rattle.crush_json.proofs.Chains.{as_told, then}
use Rattle.crush_json.proofs.tree.push_children.Goals as goal

pub returns-in_ok-key-in-Bucket : goal.returns-in_ok-key-in-Bucket
returns-in_ok-key-in-Bucket g c = λ t are.
    let r = c.push_ids.result in
    let name : List Token = key (codes "children") ∷ [] in
    let ids : List Token = tokens_of (list (id_values (map node_id c.children_of.result.now))) in
    subst (λ (i : ItemId). OnOk r (c.push_ids.new.out ≡ c.args.out.now ++ children_tokens t i)) (sym c.in-Bucket.is)
    (as_told r c.args.out.now c.push_ids.new.out (name ++ ids) (children_tokens t (Bucket c.in-Bucket.bucket)) (then r c.args.out.now c.key.new.self c.push_ids.new.out name ids c.in_ok-key-in-Bucket.ensures c.push_ids.ensures)
    (ap (λ (is : List ItemId). name ++ tokens_of (list (id_values is))) (c.children_of.ensures t are)))
