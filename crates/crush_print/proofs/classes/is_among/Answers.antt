use Rattle.std.proofs.Common.{◌∙◌, sym}
use Rattle.std.specs.Prelude.{is_some}
use Rattle.crush_nodes.proofs.Ends.{all_taken}
use Rattle.crush_print.specs.ClassItems.{class_weight_in}
use Rattle.crush_print.proofs.ClassLaws.{none_found, one_found}
use Rattle.crush_print.proofs.classes.is_among.Goals as goal

pub loop-node-preserved : goal.loop-node-preserved
loop-node-preserved g c =
    none_found c.args.class.now c.args.nodes.now c.loop-node.node-index c.node-item.result c.loop-node-test.true c.node-item.is c.loop-node.invariant (sym c.is_in.ensures ∙ c.if-is_in.false)

pub returns-then-is_in : goal.returns-then-is_in
returns-then-is_in g c =
    sym (one_found c.args.class.now c.args.nodes.now c.loop-node.node-index c.node-item.result c.loop-node-test.true c.node-item.is (sym c.is_in.ensures ∙ c.if-is_in.true))

pub returns : goal.returns
returns g c =
    let k = c.args.class.now in
    sym (sym (all_taken (λ n. is_some (class_weight_in k n)) c.args.nodes.now c.loop-node.node-index c.loop-node-test.false) ∙ c.loop-node.invariant)
