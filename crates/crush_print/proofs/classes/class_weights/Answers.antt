use Rattle.std.proofs.Common.{[], ◌∷◌, ◌≤◌, ◌∙◌, ap, sym, subst, map}
use Rattle.std.specs.Prelude.{All, flat_map}
use Rattle.crush_units.specs.declared.limits.TheConstants.{HEAVIEST_BUCKET}
use Rattle.crush_model.specs.Stands.{Stands}
use Rattle.crush_nodes.specs.Classed.{class_sum_in}
use Rattle.crush_nodes.specs.Seen.{items_of}
use Rattle.crush_items.specs.Tree.{tree_rows}
use Rattle.crush_print.specs.ClassItems.{class_weights_in, step_weight}
use Rattle.crush_print.proofs.ClassLaws.{light_roots, light_unplaced, roots_weighed, tree_weighed, unplaced_weighed}
use Rattle.crush_print.proofs.classes.class_weights.Goals as goal

pub push_all_weights-requires : goal.push_all_weights-requires
push_all_weights-requires g c =
    let k = c.as_bytes-class.result.now in
    subst (All (λ r. class_sum_in k (items_of (r.now ∷ [])) ≤ HEAVIEST_BUCKET)) (sym c.as_slice.ensures.value)
    (light_roots (λ r. r.now) c.forest-forest.result.now k c.roots.result.now c.in_ok-roots.roots.items c.roots.ensures.items c.recall_invariant.ensures c.in_ok-roots.ensures.same)

pub push_all_weights-requires-2 : goal.push_all_weights-requires-2
push_all_weights-requires-2 g c =
    let k = c.as_bytes-class.result.now in
    subst (All (λ r. class_sum_in k (items_of (r.now ∷ [])) ≤ HEAVIEST_BUCKET)) (sym c.as_slice-2.ensures.value)
    (light_unplaced (λ r. r.now) c.forest-forest.result.now k c.unplaced.result.now c.in_ok-unplaced.unplaced.items c.unplaced.ensures.items c.recall_invariant.ensures c.in_ok-unplaced.ensures.same)

pub returns : goal.returns
returns g c = λ t stands.
    let k = c.as_bytes-class.result.now in
    let f = c.forest-forest.result.now in
    let here = subst (λ x. Stands x t) (sym c.forest-forest.ensures) stands in
    let sound = c.recall_invariant.ensures in
    tree_weighed t k _ _ _ _ _ c.new-weights.ensures.items c.in_ok-push_all_weights.ensures c.in_ok-push_all_weights-2.ensures
    (ap (flat_map (λ r. class_weights_in k (items_of (r.now ∷ [])))) c.as_slice.ensures.value
    ∙ roots_weighed (λ r. r.now) f t k c.roots.result.now c.in_ok-roots.roots.items c.roots.ensures.items sound here c.in_ok-roots.ensures.same c.in_ok-roots.ensures.rising)
    (ap (flat_map (λ r. class_weights_in k (items_of (r.now ∷ [])))) c.as_slice-2.ensures.value
    ∙ unplaced_weighed (λ r. r.now) f t k c.unplaced.result.now c.in_ok-unplaced.unplaced.items c.unplaced.ensures.items sound here c.in_ok-unplaced.ensures.same c.in_ok-unplaced.ensures.rising)
    ∙ ap (λ z. map (step_weight t z) (tree_rows t)) c.as_bytes-class.ensures.value
