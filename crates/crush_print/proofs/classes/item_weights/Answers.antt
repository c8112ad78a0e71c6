use Rattle.std.proofs.Common.{◌≤◌, ◌∙◌, ◌∷◌, [], ap, length, map, sym, subst}
use Rattle.crush_nodes.specs.Classed.{class_sum_in}
use Rattle.crush_nodes.specs.Seen.{items_of}
use Rattle.crush_units.specs.declared.limits.TheConstants.{HEAVIEST_BUCKET}
use Rattle.crush_items.specs.Tree.{steps_at}
use Rattle.crush_print.specs.ClassItems.{step_weight}
use Rattle.crush_print.proofs.ClassLaws.{item_weighed_at}
use Rattle.crush_print.proofs.classes.item_weights.Goals as goal

pub push_weights-requires : goal.push_weights-requires
push_weights-requires g c =
    subst (λ x. class_sum_in c.as_bytes.result.now (items_of (x ∷ [])) ≤ HEAVIEST_BUCKET) (sym c.index-nodes-place.is)
    (c.beside-nodes.ensures.light c.as_bytes.result.now c.in-Some.place c.index-nodes-place.result c.in-Some.ensures.within)

pub returns-in_ok-push_weights-in-Some : goal.returns-in_ok-push_weights-in-Some
returns-in_ok-push_weights-in-Some g c = λ t stands.
    item_weighed_at t c.as_bytes.result.now c.args.id.now _ _ _ _ c.new-weights.ensures.items c.in_ok-push_weights-in-Some.ensures.all c.index-nodes-place.is
    (c.beside-nodes.ensures.weights t c.as_bytes.result.now stands c.in-Some.place c.index-nodes-place.result c.in-Some.ensures.within) (c.in-Some.ensures.id c.index-nodes-place.result)
    ∙ ap (λ k. map (step_weight t k) (steps_at t (length t) 0 c.args.id.now)) c.as_bytes.ensures.value

pub returns-in-None : goal.returns-in-None
returns-in-None g c = λ t stands. c.new-weights.ensures.items ∙ sym (ap (map (step_weight t c.args.class.now)) (c.beside-nodes.ensures.others t stands c.in-None.ensures.none))
