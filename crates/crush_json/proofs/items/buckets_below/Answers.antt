use Rattle.std.proofs.Common.{[], ◌∷◌, ◌++◌, ap, sym, ◌∙◌}
use Rattle.crush_nodes.specs.Seen.{items_of}
use Rattle.crush_print.specs.ItemsText.{buckets_among}
use Rattle.crush_print.proofs.ItemLines.{buckets-more}
use Rattle.crush_json.proofs.items.buckets_below.Goals as goal

pub loop-node-preserved : goal.loop-node-preserved
loop-node-preserved g c =
    c.in_ok-find_buckets.ensures ∙ ap (λ l. l ++ buckets_among (items_of (c.node-item.result ∷ []))) c.loop-node.invariant
    ∙ sym (buckets-more c.args.nodes.now c.loop-node.node-index c.node-item.result c.loop-node-test.true c.node-item.is)
