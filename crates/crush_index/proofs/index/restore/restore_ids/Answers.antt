use Rattle.std.proofs.Common.{◌∙◌, refl, arith}
use Rattle.crush_index.proofs.IdsAnswers.{one_more_used}
use Rattle.crush_index.proofs.index.restore.restore_ids.Goals as goal

pub loop-class_id-preserved : goal.loop-class_id-preserved
loop-class_id-preserved g c = record {
  answers = one_more_used c.args.header.now.id c.as_slice-class_id-items.result.now c.loop-class_id.class_id-index c.class_id-item.result c.class_id-item.result.id c.loop-class_id-test.true c.class_id-item.is refl
      c.args.used.now c.loop-class_id.used c.restore_id-in-loop-class_id.new.used c.loop-class_id.invariant.answers c.restore_id-in-loop-class_id.ensures.answers;
  hashing = c.restore_id-in-loop-class_id.ensures.hashing ∙ c.loop-class_id.invariant.hashing;
  spares = omega (arith, c.loop-class_id.invariant.spares, c.restore_id-in-loop-class_id.ensures.spares);
}
