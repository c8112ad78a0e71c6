use Rattle.crush_edits.specs.SettingSeen.{step_data}
use Rattle.crush_print.proofs.WalkLaws.{one_more}
use Rattle.crush_since.specs.Emptied.{emptied_by}
use Rattle.crush_since.proofs.RuleLaws.{seen_more}
use Rattle.crush_since.proofs.since.emptied.push_steps.Goals as goal

pub loop-step-preserved : goal.loop-step-preserved
loop-step-preserved g c = λ t u a b right.
    let before = c.loop-step.invariant t u a b right in (
      c.in_ok-push_step.ensures.cache t u a b before.0,
      one_more _ _ _ _ _ _ before.1 (c.in_ok-push_step.ensures.changes t u a b before.0)
          (seen_more (emptied_by c.args.identity t u c.args.rule.now) step_data c.args.steps.now c.loop-step.step-index c.step-item.result c.loop-step-test.true c.step-item.is),
    )

pub returns-clause-cache : goal.returns-clause-cache
returns-clause-cache g c = λ t u a b right. (c.loop-step.invariant t u a b right).0
