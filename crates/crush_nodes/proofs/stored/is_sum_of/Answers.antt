use Rattle.std.proofs.Common.{◌≡◌, ℕ, ◌∷◌, [], ◌+◌, ◌<◌, false, take, drop, arith, ap, ◌∙◌}
use Rattle.std.specs.Prelude.{◌==◌}
use Rattle.std.proofs.lemmas.Bool.Decides.{eqb_tells}
use Rattle.crush_model.specs.Forest.{join}
use Rattle.crush_model.specs.Stored.{weight_sum}
use Rattle.crush_nodes.specs.Seen.{items_of}
use Rattle.crush_nodes.proofs.Joins.{weight_sum-join}
use Rattle.crush_nodes.proofs.Steps.{items_of-taken, items_of-split}
use Rattle.crush_nodes.proofs.Ends.{all_taken}
use Rattle.crush_nodes.proofs.stored.is_sum_of.Goals as goal

too_much : (a b : ℕ) → b < a → false ≡ (a == b)
too_much a b h = grind (arith, eqb_tells)

pub returns-then-units-left : goal.returns-then-units-left
returns-then-units-left g c =
    let ns = c.args.items.now in
    let i = c.loop-node.node-index in
    let x = c.node-item.result in
    let whole : weight_sum (items_of ns) ≡ weight_sum (items_of (take i ns)) + (weight_sum (items_of (x ∷ [])) + weight_sum (items_of (drop (i + 1) ns))) =
    ap weight_sum (items_of-split ns i x c.loop-node-test.true c.node-item.is) ∙ weight_sum-join (items_of (take i ns)) (join (items_of (x ∷ [])) (items_of (drop (i + 1) ns))) ∙ ap (λ z. weight_sum (items_of (take i ns)) + z) (weight_sum-join (items_of (x ∷ [])) (items_of (drop (i + 1) ns))) in
    too_much (weight_sum (items_of ns)) c.args.sum (omega (arith, c.loop-node.invariant, c.if-units-left.true, c.units-units.ensures.value, c.weight.ensures, whole))

pub loop-node-preserved : goal.loop-node-preserved
loop-node-preserved g c =
    let ns = c.args.items.now in
    let i = c.loop-node.node-index in
    let x = c.node-item.result in
    let more : weight_sum (items_of (take (i + 1) ns)) ≡ weight_sum (items_of (take i ns)) + weight_sum (items_of (x ∷ [])) =
    ap weight_sum (items_of-taken ns i x c.loop-node-test.true c.node-item.is) ∙ weight_sum-join (items_of (take i ns)) (items_of (x ∷ [])) in
    omega (arith, c.loop-node.invariant, c.if-units-left.false, c.units-units.ensures.value, c.weight.ensures, more)

-- what is left of the sum after all weights are subtracted from it
left_over : (l w s : ℕ) → l + w ≡ s → (l == 0) ≡ (w == s)
left_over l w s e = grind (arith, eqb_tells)

pub returns : goal.returns
returns g c = left_over c.loop-node.left (weight_sum (items_of c.args.items.now)) c.args.sum (omega (arith, c.loop-node.invariant, all_taken weight_sum c.args.items.now c.loop-node.node-index c.loop-node-test.false))
