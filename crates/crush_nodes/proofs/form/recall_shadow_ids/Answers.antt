use Rattle.std.proofs.Common.{arith}
use Rattle.crush_nodes.proofs.ApartSteps.{class_ids_more, class_ids_all}
use Rattle.crush_nodes.proofs.form.recall_shadow_ids.Goals as goal

pub loop-class_id-preserved : goal.loop-class_id-preserved
loop-class_id-preserved g c =
    class_ids_more c.args.class_ids.now c.loop-class_id.class_id-index c.class_id-item.result c.loop-class_id-test.true c.class_id-item.is c.loop-class_id.invariant c.recall_shadow_id.ensures

pub returns : goal.returns
returns g c = class_ids_all c.args.class_ids.now c.loop-class_id.class_id-index (omega (arith, c.loop-class_id-test.false)) c.loop-class_id.invariant
