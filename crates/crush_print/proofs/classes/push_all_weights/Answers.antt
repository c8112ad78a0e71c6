use Rattle.std.proofs.Common.{[], ◌∷◌}
use Rattle.crush_nodes.specs.Seen.{items_of}
use Rattle.crush_print.specs.ClassItems.{class_weights_in}
use Rattle.crush_print.proofs.WalkLaws.{one_more, more_steps}
use Rattle.crush_print.proofs.classes.push_all_weights.Goals as goal

pub loop-node-preserved : goal.loop-node-preserved
loop-node-preserved g c =
    one_more _ _ _ _ _ _ c.loop-node.invariant c.in_ok-push_weights.ensures.all
    (more_steps (λ r. class_weights_in c.args.class.now (items_of (r.now ∷ []))) c.args.nodes.now c.loop-node.node-index c.node-item.result c.loop-node-test.true c.node-item.is)
