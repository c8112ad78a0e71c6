use Rattle.std.proofs.Common.{[], take, subst, sym, ap, add-one, arith, ◌∙◌}
use Rattle.crush_model.specs.Stands.{Stands}
use Rattle.crush_conflicts.specs.MapsSeen.{IsMapAlone, IsOperator}
use Rattle.crush_conflicts.specs.Pairwise.{Pairwise}
use Rattle.crush_conflicts.proofs.PairwiseLaws.{pair_at, pairwise_all, pairwise_more}
use Rattle.crush_conflicts.proofs.conflicts.operators_of.Goals as goal

pub loop-alone-init : goal.loop-alone-init
loop-alone-init g c = λ os are. subst (Pairwise IsOperator []) (sym c.new-operators.ensures.items) tt

pub loop-alone-preserved : goal.loop-alone-preserved
loop-alone-preserved g c = λ os are.
    let i = c.loop-alone.alone-index in
    let at = pair_at IsMapAlone os c.args.maps.now i c.alone-item.result are c.loop-alone-test.true c.alone-item.is in
    pairwise_more IsOperator _ _ _ _ _ _ (c.loop-alone.invariant os are) (ap (λ n. take n os) (add-one i) ∙ at.next) c.in-Ok.ensures.items
    (record { name = at.both.name; table = subst (λ f. Stands f at.first.table) (sym c.in_ok-items.ensures) at.both.table })

pub returns : goal.returns
returns g c = λ os are.
    subst (λ ds. Pairwise IsOperator ds c.loop-alone.operators.items) (pairwise_all IsMapAlone os c.args.maps.now c.loop-alone.alone-index are (omega (arith, c.loop-alone-test.false))) (c.loop-alone.invariant os are)
