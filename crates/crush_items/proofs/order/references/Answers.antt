use Rattle.std.proofs.Common.{◌++◌, [], ◌∷◌, ap, sym, ◌∙◌, map, take}
use Rattle.std.proofs.lemmas.List.{map_push, take_more}
use Rattle.crush_items.proofs.order.references.Goals as goal

pub loop-node-preserved : goal.loop-node-preserved
loop-node-preserved g c =
    let ns = c.args.nodes.now in
    let i = c.loop-node.node-index in
    let x = c.node-item.result in
    ap (map (λ r. r.now)) c.in_ok-push.ensures.items ∙ map_push (λ r. r.now) c.loop-node.references.items _
    ∙ ap (λ l. l ++ x ∷ []) c.loop-node.invariant ∙ sym (take_more ns i x c.loop-node-test.true ∙ ap (λ y. take i ns ++ y ∷ []) (sym c.node-item.is))
