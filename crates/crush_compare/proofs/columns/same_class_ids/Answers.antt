use Rattle.std.proofs.Common.{◌∙◌, sym, arith}
use Rattle.crush_nodes.specs.Seen.{shadow_data}
use Rattle.crush_compare.specs.SameItem.{same_class_id}
use Rattle.crush_compare.proofs.PairLaws.{pair_differs, pair_more}
use Rattle.crush_compare.proofs.columns.same_class_ids.Goals as goal

pub returns-then-not-same_class_id : goal.returns-then-not-same_class_id
returns-then-not-same_class_id g c =
    sym (pair_differs same_class_id shadow_data shadow_data c.loop-index.index c.args.before.now c.args.after.now c.index-before-index.result c.index-after-index.result c.loop-index-test.true (omega (arith, c.loop-index-test.true, c.if-before-after.false))
    c.index-before-index.is c.index-after-index.is (sym c.same_class_id.ensures ∙ c.if-not-same_class_id.true))

pub loop-index-preserved : goal.loop-index-preserved
loop-index-preserved g c =
    pair_more same_class_id shadow_data shadow_data c.loop-index.index c.args.before.now c.args.after.now c.index-before-index.result c.index-after-index.result c.loop-index-test.true (omega (arith, c.loop-index-test.true, c.if-before-after.false))
    c.index-before-index.is c.index-after-index.is c.loop-index.invariant (sym c.same_class_id.ensures ∙ c.if-not-same_class_id.false)
