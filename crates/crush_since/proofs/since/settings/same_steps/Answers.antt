use Rattle.std.proofs.Common.{◌∙◌, sym, arith}
use Rattle.crush_edits.specs.SettingSeen.{step_data}
use Rattle.crush_since.specs.Settings.{same_step}
use Rattle.crush_compare.proofs.PairLaws.{pair_differs, pair_more}
use Rattle.crush_since.proofs.since.settings.same_steps.Goals as goal

pub returns-then-not-same_step : goal.returns-then-not-same_step
returns-then-not-same_step c =
    sym (pair_differs same_step step_data step_data c.loop-index.index c.args.old.now c.args.new.now c.index-old-index.result c.index-new-index.result c.loop-index-test.true (omega (arith, c.loop-index-test.true, c.if-old-new.false))
    c.index-old-index.is c.index-new-index.is (sym c.same_step.ensures ∙ c.if-not-same_step.true))

pub loop-index-preserved : goal.loop-index-preserved
loop-index-preserved c =
    pair_more same_step step_data step_data c.loop-index.index c.args.old.now c.args.new.now c.index-old-index.result c.index-new-index.result c.loop-index-test.true (omega (arith, c.loop-index-test.true, c.if-old-new.false))
    c.index-old-index.is c.index-new-index.is c.loop-index.invariant (sym c.same_step.ensures ∙ c.if-not-same_step.false)
