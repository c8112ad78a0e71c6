use Rattle.std.proofs.Common.{◌≡◌, ◌<◌, ◌^◌, [], ◌∷◌, ◌++◌, ◌∙◌, ap, sym, subst, map, arith, inl}
use Rattle.std.specs.Prelude.{All, None, OnOk, flat_map}
use Rattle.crush_model.specs.Items.{size_of}
use Rattle.crush_model.specs.Stands.{Stands}
use Rattle.crush_nodes.specs.Seen.{items_of}
use Rattle.crush_since.specs.ChangeItems.{left_of}
use Rattle.crush_since.specs.SeenChange.{row_change}
use Rattle.crush_since.proofs.StoodLaws.{left_roots}
use Rattle.crush_print.proofs.WalkLaws.{few_buckets, small_refs}
use Rattle.crush_since.proofs.changes.left.push_left_roots.Goals as goal

pub push_left_tops-requires : goal.push_left_tops-requires
push_left_tops-requires g c =
    let few = few_buckets c.forest-forest.result.now _ c.recall_invariant.ensures (inl c.roots.ensures.items) in
    subst (All (λ r. size_of (items_of (r.now ∷ [])) < 2 ^ 32)) (sym c.as_slice.ensures.value) (small_refs (2 ^ 32) (λ r. r.now) c.roots.result.now c.in_ok-roots.roots.items c.in_ok-roots.ensures.same (omega (arith, few)))

pub returns : goal.returns
returns g c = λ t u tables.
    let f = c.forest-forest.result.now in
    let here = subst (λ x. Stands x t) (sym c.forest-forest.ensures) tables.old in
    subst (λ l. OnOk c.push_left_tops.result (map (row_change c.args.both.now.maps) c.push_left_tops.new.rows.items ≡ map (row_change c.args.both.now.maps) c.args.rows.now.items ++ l))
    (ap (flat_map (λ r. left_of t u 0 None r.now)) c.as_slice.ensures.value
    ∙ left_roots t u (λ r. r.now) f c.roots.result.now c.in_ok-roots.roots.items c.roots.ensures.items c.recall_invariant.ensures here c.in_ok-roots.ensures.same c.in_ok-roots.ensures.rising)
    (c.push_left_tops.ensures t u tables)
