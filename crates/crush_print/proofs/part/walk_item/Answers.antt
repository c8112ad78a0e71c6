use Rattle.std.proofs.Common.{◌∙◌, ◌∷◌, ◌^◌, [], ap, sym, arith, map}
use Rattle.crush_nodes.specs.Seen.{items_of}
use Rattle.crush_model.specs.Items.{size_of}
use Rattle.crush_print.specs.WalkStep.{walk_step_data}
use Rattle.crush_print.proofs.PlaceLaws.{item_walked}
use Rattle.crush_print.proofs.WalkLaws.{small_each}
use Rattle.crush_print.proofs.part.walk_item.Goals as goal

pub push_steps-requires : goal.push_steps-requires
push_steps-requires g c =
    let small = small_each (2 ^ 31) c.beside-nodes.result.now c.beside-nodes.ensures.few c.in-Some.place c.index-nodes-place.result c.in-Some.ensures.within in
    let is = ap (λ node. size_of (items_of (node ∷ []))) c.index-nodes-place.is in
    omega (arith, small, is)

pub returns-in_ok-push_steps-in-Some : goal.returns-in_ok-push_steps-in-Some
returns-in_ok-push_steps-in-Some g c = λ t stands.
    item_walked t c.args.id.now _ _ _ _ _ _ (ap (map walk_step_data) c.new-steps.ensures.items) c.in_ok-push_steps-in-Some.ensures (c.parent-parent.ensures t stands) c.index-nodes-place.is
    (c.beside-nodes.ensures.steps t stands c.in-Some.place c.index-nodes-place.result c.in-Some.ensures.within) (c.in-Some.ensures.id c.index-nodes-place.result)

pub returns-in-None : goal.returns-in-None
returns-in-None g c = λ t stands. ap (map walk_step_data) c.new-steps.ensures.items ∙ sym (c.beside-nodes.ensures.others t stands c.in-None.ensures.none)
