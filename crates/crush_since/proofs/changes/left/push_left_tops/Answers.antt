use Rattle.std.proofs.Common.{arith, ap, map, ◌∙◌, ◌++◌}
use Rattle.std.proofs.lemmas.List.{take_all}
use Rattle.crush_since.specs.SeenChange.{row_change}
use Rattle.std.specs.Prelude.{None, flat_map}
use Rattle.crush_since.specs.ChangeItems.{left_of}
use Rattle.crush_print.proofs.WalkLaws.{one_more, more_steps}
use Rattle.crush_since.proofs.changes.left.push_left_tops.Goals as goal

pub loop-node-preserved : goal.loop-node-preserved
loop-node-preserved g c = λ t u tables.
    one_more _ _ _ _ _ _ (c.loop-node.invariant t u tables) (c.in_ok-push_if_left.ensures t u tables)
    (more_steps (λ r. left_of t u 0 None r.now) c.args.nodes.now c.loop-node.node-index c.node-item.result c.loop-node-test.true c.node-item.is)

pub returns : goal.returns
returns g c = λ t u tables.
    c.loop-node.invariant t u tables
    ∙ ap (λ l. map (row_change c.args.both.now.maps) c.args.rows.now.items ++ flat_map (λ r. left_of t u 0 None r.now) l) (take_all c.loop-node.node-index c.args.nodes.now (omega (arith, c.loop-node-test.false)))
