use Rattle.std.proofs.Common.{sym, subst, inl, inr, false, ◌≡◌}
use Rattle.std.specs.Prelude.{All, None}
use Rattle.crush_model.specs.Forest.{rows_of}
use Rattle.crush_model.specs.Stands.{Stands}
use Rattle.crush_model.proofs.Stands.{stands_for_rows}
use Rattle.crush_model.specs.Table.{parent_of, row_of}
use Rattle.crush_nodes.specs.Seen.{node_id}
use Rattle.crush_units.specs.Id.{same_id}
use Rattle.crush_print.proofs.ClassLaws.{each_light, each_weighed, roots_are_weighed, unplaced_are_weighed}
use Rattle.crush_print.proofs.PlaceLaws.{not_among_roots, not_among_unplaced}
use Rattle.crush_print.proofs.WalkLaws.{few_buckets, few_roots, few_unplaced, node_steps, roots_told, unplaced_told}
use Rattle.crush_print.proofs.part.tops_like.Goals as goal

pub returns-in-Device-clause-few : goal.returns-in-Device-clause-few
returns-in-Device-clause-few g c = few_buckets c.forest-forest.result.now _ c.recall_invariant.ensures (inr c.unplaced.ensures.items)

pub returns-in-Device-clause-steps : goal.returns-in-Device-clause-steps
returns-in-Device-clause-steps g c = λ t stands.
    let f = c.forest-forest.result.now in
    let here = subst (λ x. Stands x t) (sym c.forest-forest.ensures) stands in
    let ns = c.unplaced.result.now in
    node_steps t None ns (unplaced_told f t ns c.unplaced.ensures.items here) (few_unplaced f t ns c.unplaced.ensures.items c.recall_invariant.ensures)

pub returns-in-Device-clause-others : goal.returns-in-Device-clause-others
returns-in-Device-clause-others g c = λ t stands.
    let here = subst (λ x. Stands x t) (sym c.forest-forest.ensures) stands in
    subst (λ i. parent_of t i ≡ None → All (λ node. same_id (node_id node) i ≡ false) c.unplaced.result.now → row_of t i ≡ None) (sym c.in-Device.is)
    (not_among_unplaced t c.in-Device.field-0 c.unplaced.result.now (c.unplaced.ensures.ids t here))

pub returns-in-Bucket-clause-few : goal.returns-in-Bucket-clause-few
returns-in-Bucket-clause-few g c = few_buckets c.forest-forest.result.now _ c.recall_invariant.ensures (inl c.roots.ensures.items)

pub returns-in-Bucket-clause-steps : goal.returns-in-Bucket-clause-steps
returns-in-Bucket-clause-steps g c = λ t stands.
    let f = c.forest-forest.result.now in
    let here = subst (λ x. Stands x t) (sym c.forest-forest.ensures) stands in
    let ns = c.roots.result.now in
    node_steps t None ns (roots_told f t ns c.roots.ensures.items here) (few_roots f t ns c.roots.ensures.items here)

pub returns-in-Bucket-clause-others : goal.returns-in-Bucket-clause-others
returns-in-Bucket-clause-others g c = λ t stands.
    let here = subst (λ x. Stands x t) (sym c.forest-forest.ensures) stands in
    subst (λ i. parent_of t i ≡ None → All (λ node. same_id (node_id node) i ≡ false) c.roots.result.now → row_of t i ≡ None) (sym c.in-Bucket.is)
    (not_among_roots t c.in-Bucket.field-0 c.roots.result.now (c.roots.ensures.ids t here))

pub returns-in-Device-clause-weights : goal.returns-in-Device-clause-weights
returns-in-Device-clause-weights g c = λ t k stands.
    let f = c.forest-forest.result.now in
    let here = subst (λ x. Stands x t) (sym c.forest-forest.ensures) stands in
    let ns = c.unplaced.result.now in
    each_weighed t k None ns (node_steps t None ns (unplaced_told f t ns c.unplaced.ensures.items here) (few_unplaced f t ns c.unplaced.ensures.items c.recall_invariant.ensures)) (unplaced_are_weighed f t k ns c.unplaced.ensures.items c.recall_invariant.ensures here)

pub returns-in-Device-clause-light : goal.returns-in-Device-clause-light
returns-in-Device-clause-light g c = λ k.
    let f = c.forest-forest.result.now in
    let sound = c.recall_invariant.ensures in
    each_light (rows_of f) k c.unplaced.result.now (unplaced_are_weighed f (rows_of f) k c.unplaced.result.now c.unplaced.ensures.items sound (stands_for_rows f sound))

pub returns-in-Bucket-clause-weights : goal.returns-in-Bucket-clause-weights
returns-in-Bucket-clause-weights g c = λ t k stands.
    let f = c.forest-forest.result.now in
    let here = subst (λ x. Stands x t) (sym c.forest-forest.ensures) stands in
    let ns = c.roots.result.now in
    each_weighed t k None ns (node_steps t None ns (roots_told f t ns c.roots.ensures.items here) (few_roots f t ns c.roots.ensures.items here)) (roots_are_weighed f t k ns c.roots.ensures.items c.recall_invariant.ensures here)

pub returns-in-Bucket-clause-light : goal.returns-in-Bucket-clause-light
returns-in-Bucket-clause-light g c = λ k.
    let f = c.forest-forest.result.now in
    let sound = c.recall_invariant.ensures in
    each_light (rows_of f) k c.roots.result.now (roots_are_weighed f (rows_of f) k c.roots.result.now c.roots.ensures.items sound (stands_for_rows f sound))
