use Rattle.std.proofs.lemmas.List.{take_all}
use Rattle.crush_since.specs.SeenChange.{row_change}
use Rattle.std.proofs.Common.{arith, ap, map, ◌∙◌, ◌++◌}
use Rattle.std.specs.Prelude.{Some, flat_map}
use Rattle.crush_print.proofs.ItemLines.{item_no_larger}
use Rattle.crush_since.specs.ChangeItems.{left_of}
use Rattle.crush_print.proofs.WalkLaws.{one_more, more_steps}
use Rattle.crush_since.proofs.changes.left.push_left_items.Goals as goal

pub push_if_left-requires : goal.push_if_left-requires
push_if_left-requires g c =
    let le = item_no_larger c.args.items.now c.loop-item.item-index c.item-item.result c.loop-item-test.true c.item-item.is in
    omega (arith, le, c.requires)

pub loop-item-preserved : goal.loop-item-preserved
loop-item-preserved g c = λ t u tables.
    one_more _ _ _ _ _ _ (c.loop-item.invariant t u tables) (c.in_ok-push_if_left.ensures t u tables)
    (more_steps (left_of t u c.args.depth (Some c.args.bucket)) c.args.items.now c.loop-item.item-index c.item-item.result c.loop-item-test.true c.item-item.is)

pub returns : goal.returns
returns g c = λ t u tables.
    c.loop-item.invariant t u tables
    ∙ ap (λ l. map (row_change c.args.both.now.maps) c.args.rows.now.items ++ flat_map (left_of t u c.args.depth (Some c.args.bucket)) l) (take_all c.loop-item.item-index c.args.items.now (omega (arith, c.loop-item-test.false)))
