use Rattle.std.proofs.Common.{◌+◌, [], ◌∷◌, ◌++◌, ap, arith, map, ◌∙◌}
use Rattle.std.specs.Prelude.{None, flat_map}
use Rattle.std.proofs.lemmas.List.{map_push, take_all}
use Rattle.crush_items.specs.Items.{item_entry}
use Rattle.crush_items.proofs.WalkLaws.{one_more, more_steps}
use Rattle.crush_compare.specs.NamedPairs.{new_pair}
use Rattle.crush_compare.specs.PairItems.{items_at}
use Rattle.crush_compare.proofs.NamedLaws.{item_here}
use Rattle.crush_compare.proofs.by_name.push_new.Goals as goal

pub loop-item-preserved : goal.loop-item-preserved
loop-item-preserved g c = (
  λ t u es stands by_id.
      let xs = c.args.items.now in
      let ps = c.loop-item.pairs.items in
      let before = c.counterpart-before.ensures t es stands by_id in
      let after = item_here xs c.loop-item.item-index c.loop-item.at c.item-item.result c.loop-item-test.true c.item-item.is c.loop-item.invariant.1 in
      one_more _ _ _ _ _ _ (c.loop-item.invariant.0 t u es stands by_id)
      (ap (map (items_at es (map item_entry xs))) c.in_ok-push.ensures.items ∙ map_push (items_at es (map item_entry xs)) ps _
      ∙ (λ i. map (items_at es (map item_entry xs)) ps ++ record { before = before i; after = after i } ∷ []))
      (more_steps (λ x. new_pair c.args.devices None t u (item_entry x).item) xs c.loop-item.item-index c.item-item.result c.loop-item-test.true c.item-item.is),
  ap (λ n. n + 1) c.loop-item.invariant.1,
)

pub returns : goal.returns
returns g c = λ t u es stands by_id.
    c.loop-item.invariant.0 t u es stands by_id
    ∙ ap (λ xs. map (items_at es (map item_entry c.args.items.now)) c.args.pairs.now.items ++ flat_map (λ x. new_pair c.args.devices None t u (item_entry x).item) xs)
    (take_all c.loop-item.item-index c.args.items.now (omega (arith, c.loop-item-test.false)))
