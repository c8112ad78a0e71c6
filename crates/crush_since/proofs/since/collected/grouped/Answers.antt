use Rattle.std.proofs.Common.{◌∷◌, ◌+◌, ◌-◌, length, reverse, drop, map, ap, sym, ◌∙◌, arith, refl}
use Rattle.crush_since.specs.CollectedSeen.{item_data, use_data}
use Rattle.crush_since.specs.Grouped.{grouped, with_first}
use Rattle.crush_since.proofs.SortedItems.{before, all_dropped}
use Rattle.crush_since.proofs.since.collected.grouped.Goals as goal

pub loop-back-init : goal.loop-back-init
loop-back-init c =
    let items = c.args.items.now in
    record {
      counted = refl;
      some = omega (arith, c.if-count-eq0.false);
      least = omega arith;
      most = omega (arith, c.if-count-eq0.false);
      classes =
          ap (λ x. x ∷ reverse (map use_data c.new-done.result.items)) c.of-current.ensures.data
          ∙ ap (λ l. item_data c.item_at-last.result.now ∷ reverse (map use_data l)) c.new-done.ensures.items
          ∙ sym (ap grouped (before items (length items - 1) (length items) c.item_at-last.result.now (omega (arith, c.if-count-eq0.false)) (omega (arith, c.if-count-eq0.false)) c.item_at-last.ensures
          ∙ ap (λ l. item_data c.item_at-last.result.now ∷ map item_data l) (all_dropped items)));
      low = λ k. omega (arith, c.of-current.ensures.low k);
    }

pub loop-back-preserved : goal.loop-back-preserved
loop-back-preserved c =
    let items = c.args.items.now in
    let back = c.loop-back.back in
    record {
      counted = refl;
      some = c.loop-back.invariant.some;
      least = omega arith;
      most = omega (arith, c.loop-back-test.true);
      classes =
          c.in_ok-current.ensures.next ∙ ap (with_first (item_data c.item_at-item.result.now)) c.loop-back.invariant.classes
          ∙ sym (ap (λ i. grouped (map item_data (drop i items))) (omega (arith, c.loop-back-test.true))
          ∙ ap grouped (before items (length items - 1 - back) (length items - back) c.item_at-item.result.now (omega (arith, c.loop-back-test.true)) (omega (arith, c.loop-back-test.true)) c.item_at-item.ensures));
      low = λ k. omega (arith, c.in_ok-current.ensures.low k, c.loop-back.invariant.low k);
    }
