use Rattle.std.proofs.Common.{ap, map, arith, ◌∙◌}
use Rattle.std.specs.Prelude.{flat_map}
use Rattle.crush_items.specs.Items.{item_step}
use Rattle.crush_items.proofs.WalkLaws.{flat-map}
use Rattle.crush_conflicts.specs.Conflicts.{tables_of}
use Rattle.crush_conflicts.specs.NewItems.{new_name, new_names}
use Rattle.crush_conflicts.proofs.MapLaws.{names_more, operators_all}
use Rattle.crush_conflicts.proofs.new_items.all_new_names.Goals as goal

pub loop-operator-preserved : goal.loop-operator-preserved
unfolding new_names
loop-operator-preserved g c = λ t os stands are.
    names_more os c.args.operators.now c.loop-operator.operator-index c.operator-item.result (new_names t) _ _ _ are c.loop-operator-test.true c.operator-item.is (c.loop-operator.invariant t os stands are)
    (c.in_ok-push_new_names.ensures t stands)
    (λ o is. flat-map (new_name t) item_step c.in_order.result.now ∙ ap (flat_map (new_name t)) (c.in_order.ensures o.table is.table))

pub returns : goal.returns
returns g c = λ t os stands are.
    c.loop-operator.invariant t os stands are
    ∙ ap (λ l. flat_map (new_names t) (tables_of l)) (operators_all os c.args.operators.now c.loop-operator.operator-index are (omega (arith, c.loop-operator-test.false)))
