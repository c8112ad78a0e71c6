use Rattle.std.proofs.Common.{ap, map, subst, sym, arith, ◌∙◌}
use Rattle.crush_items.specs.ItemData.{item_of}
use Rattle.crush_conflicts.specs.Conflicts.{found_by}
use Rattle.crush_conflicts.specs.MapsSeen.{IsOperator}
use Rattle.crush_conflicts.specs.Pairwise.{Pairwise}
use Rattle.crush_conflicts.proofs.MapLaws.{found_more, operators_all}
use Rattle.crush_conflicts.proofs.maps.RunItems.found_by_id.Goals as goal

pub loop-operator-preserved : goal.loop-operator-preserved
loop-operator-preserved g c = λ os are.
    found_more os c.as_slice-operators.result.now c.loop-operator.operator-index c.operator-item.result (found_by (λ u. item_of u c.args.id.now)) _ _ _
    (subst (Pairwise IsOperator os) (sym c.as_slice-operators.ensures.value) are) c.loop-operator-test.true c.operator-item.is (c.loop-operator.invariant os are)
    c.in_ok-push_found.ensures (λ o is j. record { name = is.name j; item = c.item-item.ensures o.table is.table j })

pub returns : goal.returns
returns g c = λ os are.
    c.loop-operator.invariant os are
    ∙ ap (map (found_by (λ u. item_of u c.args.id.now))) (operators_all os c.as_slice-operators.result.now c.loop-operator.operator-index (subst (Pairwise IsOperator os) (sym c.as_slice-operators.ensures.value) are) (omega (arith, c.loop-operator-test.false)))
