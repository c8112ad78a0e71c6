use Rattle.std.proofs.Common.{◌∙◌, ◌+◌, ap, sym}
use Rattle.crush_items.specs.ById.{id_key}
use Rattle.crush_items.specs.Items.{item_entry}
use Rattle.crush_items.proofs.EntryLaws.{view_id}
use Rattle.crush_items.proofs.PlaceLaws.{places_next}
use Rattle.crush_items.proofs.by_id.places_of.Goals as goal

pub loop-item-preserved : goal.loop-item-preserved
loop-item-preserved g c = (
  c.in_ok-push.ensures.items
      ∙ places_next item_entry c.args.items.now c.loop-item.item-index c.item-item.result _ _ c.loop-item-test.true c.item-item.is c.loop-item.invariant.0
      (c.key_of-key.ensures.key ∙ ap id_key (c.id.ensures ∙ sym (view_id c.item-item.result.parent c.item-item.result.node.now))) c.loop-item.invariant.1,
  ap (λ n. n + 1) c.loop-item.invariant.1,
)
