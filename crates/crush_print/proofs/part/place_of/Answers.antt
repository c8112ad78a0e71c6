use Rattle.std.proofs.Common.{◌≡◌, ◌∙◌, ap, sym, subst, arith, false}
use Rattle.std.specs.Prelude.{All}
use Rattle.std.proofs.lemmas.List.{take_all}
use Rattle.crush_nodes.specs.Seen.{node_id}
use Rattle.crush_units.specs.Id.{same_id}
use Rattle.crush_print.proofs.PlaceLaws.{others_more}
use Rattle.crush_print.proofs.part.place_of.Goals as goal

pub loop-place-preserved : goal.loop-place-preserved
loop-place-preserved g c =
    others_more (λ node. same_id (node_id node) c.args.id.now ≡ false) c.args.nodes.now c.loop-place.place c.index-nodes-place.result c.loop-place-test.true c.index-nodes-place.is c.loop-place.invariant
    (ap (λ i. same_id i c.args.id.now) (sym c.id.ensures) ∙ sym c.is_same.ensures.value ∙ c.if-is_same.false)

pub returns-clause-none : goal.returns-clause-none
returns-clause-none g c = subst (All (λ node. same_id (node_id node) c.args.id.now ≡ false)) (take_all c.loop-place.place c.args.nodes.now (omega (arith, c.loop-place-test.false))) c.loop-place.invariant
