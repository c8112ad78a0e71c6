use Rattle.std.proofs.Common.{[], ◌∷◌, ap, ◌∙◌}
use Rattle.std.proofs.lemmas.Result.{IfOk-weaker}
use Rattle.std.specs.Prelude.{flat_map}
use Rattle.crush_nodes.specs.Seen.{items_of}
use Rattle.crush_print.specs.ItemsText.{buckets_among}
use Rattle.crush_print.proofs.InOrder.{buckets_numbered_in_order, buckets_print_in_order}
use Rattle.crush_print.proofs.order.buckets_in_order.Goals as goal

pub returns-clause-ids : goal.returns-clause-ids
returns-clause-ids g c = IfOk-weaker c.buckets_below.result _ _
    (λ found is t stands.
    let below = is ∙ ap (flat_map (λ r. buckets_among (items_of (r.now ∷ [])))) c.as_slice.ensures.value in
    buckets_numbered_in_order (λ r. r.now) (λ b. b.now) c.args.forest.now t c.roots.result.now _ _ c.roots.ensures.items c.recall_invariant.ensures stands c.in_ok-roots.ensures.same c.in_ok-roots.ensures.rising below)
    c.buckets_below.ensures

pub returns-clause-texts : goal.returns-clause-texts
returns-clause-texts g c = IfOk-weaker c.buckets_below.result _ _
    (λ found is form s t stands.
    let f = c.args.forest.now in
    let ns = c.roots.result.now in
    let below = is ∙ ap (flat_map (λ r. buckets_among (items_of (r.now ∷ [])))) c.as_slice.ensures.value in
    buckets_print_in_order (λ r. r.now) (λ b. b.now) form s f t ns _ _ c.roots.ensures.items stands c.in_ok-roots.ensures.same below
    (buckets_numbered_in_order (λ r. r.now) (λ b. b.now) f t ns _ _ c.roots.ensures.items c.recall_invariant.ensures stands c.in_ok-roots.ensures.same c.in_ok-roots.ensures.rising below))
    c.buckets_below.ensures
