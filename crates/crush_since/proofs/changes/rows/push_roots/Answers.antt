use Rattle.std.proofs.Common.{◌<◌, ◌^◌, [], ◌∷◌, ◌∙◌, ap, sym, subst, map, inl}
use Rattle.std.specs.Prelude.{All, flat_map}
use Rattle.crush_model.specs.Items.{size_of}
use Rattle.crush_model.specs.Stands.{Stands}
use Rattle.crush_nodes.specs.Seen.{items_of}
use Rattle.crush_since.specs.ChangeItems.{stands_of}
use Rattle.crush_since.specs.Changes.{root_rows}
use Rattle.crush_since.specs.SeenChange.{row_change}
use Rattle.crush_since.specs.Since.{plain_map}
use Rattle.crush_since.proofs.ChangeTextLaws.{both_pushed}
use Rattle.crush_since.proofs.StandsLaws.{roots_stand}
use Rattle.crush_print.proofs.WalkLaws.{few_buckets, small_refs}
use Rattle.crush_since.proofs.changes.rows.push_roots.Goals as goal

pub push_tops-requires : goal.push_tops-requires
push_tops-requires g c =
    subst (All (λ r. size_of (items_of (r.now ∷ [])) < 2 ^ 31)) (sym c.as_slice.ensures.value)
    (small_refs (2 ^ 31) (λ r. r.now) c.roots.result.now c.in_ok-roots.roots.items c.in_ok-roots.ensures.same (few_buckets c.forest-forest.result.now _ c.recall_invariant.ensures (inl c.roots.ensures.items)))

pub returns : goal.returns
unfolding root_rows
returns g c = λ t u tables.
    let old = plain_map c.args.both.now.maps.old.map.now.setting t in
    let new = plain_map c.args.both.now.maps.new.map.now.setting u in
    let f = c.forest-forest.result.now in
    let here = subst (λ x. Stands x u) (sym c.forest-forest.ensures) tables.new in
    both_pushed c.push_left_roots.result (map (row_change c.args.both.now.maps) c.args.rows.now.items) (map (row_change c.args.both.now.maps) c.push_tops.new.rows.items) (map (row_change c.args.both.now.maps) c.push_left_roots.new.rows.items) _ _ _ (c.in_ok-push_tops.ensures t u tables)
    (ap (flat_map (λ r. stands_of old new 0 (items_of (r.now ∷ [])))) c.as_slice.ensures.value
    ∙ roots_stand old new (λ r. r.now) f c.roots.result.now c.in_ok-roots.roots.items c.roots.ensures.items c.recall_invariant.ensures here c.in_ok-roots.ensures.same c.in_ok-roots.ensures.rising)
    (c.push_left_roots.ensures t u tables)
