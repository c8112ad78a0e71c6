use Rattle.std.proofs.Common.{◌+◌, [], ◌∷◌, ◌++◌, ap, arith, map, ◌∙◌}
use Rattle.std.specs.Prelude.{None, Some, flat_map, if◌then◌else◌, not}
use Rattle.std.proofs.lemmas.List.{take_all}
use Rattle.crush_items.specs.Items.{item_entry}
use Rattle.crush_items.proofs.WalkLaws.{one_more, more_steps}
use Rattle.crush_compare.specs.NamedPairs.{PairData, old_pair}
use Rattle.crush_compare.specs.PairItems.{items_at}
use Rattle.crush_compare.proofs.NamedLaws.{item_here, more_if}
use Rattle.crush_compare.proofs.by_name.push_gone.Goals as goal

pub loop-item-preserved : goal.loop-item-preserved
loop-item-preserved g c = (
  λ t u fs stands.
      let xs = c.args.items.now in
      let ps = c.loop-item.pairs.items in
      let x = c.item-item.result in
      let f = items_at (map item_entry xs) fs in
      let own : PairData = record { before = Some (item_entry x).item; after = None } in
      let before = item_here xs c.loop-item.item-index c.loop-item.at x c.loop-item-test.true c.item-item.is c.loop-item.invariant.1 in
      one_more _ _ _ _ _ _ (c.loop-item.invariant.0 t u fs stands)
      (ap (map f) c.in_ok-push_if_gone.ensures ∙ more_if f _ ps _ own (λ i. record { before = before i; after = None })
      ∙ ap (λ b. map f ps ++ (if not b then own ∷ [] else [])) (c.has_counterpart-is_gone.ensures u stands))
      (more_steps (λ y. old_pair c.args.devices None t u (item_entry y).item) xs c.loop-item.item-index x c.loop-item-test.true c.item-item.is),
  ap (λ n. n + 1) c.loop-item.invariant.1,
)

pub returns : goal.returns
returns g c = λ t u fs stands.
    c.loop-item.invariant.0 t u fs stands
    ∙ ap (λ xs. map (items_at (map item_entry c.args.items.now) fs) c.args.pairs.now.items ++ flat_map (λ x. old_pair c.args.devices None t u (item_entry x).item) xs)
    (take_all c.loop-item.item-index c.args.items.now (omega (arith, c.loop-item-test.false)))
