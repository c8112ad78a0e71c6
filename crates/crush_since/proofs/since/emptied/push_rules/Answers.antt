use Rattle.crush_edits.specs.SettingSeen.{rule_data}
use Rattle.crush_print.proofs.WalkLaws.{one_more}
use Rattle.crush_since.specs.Emptied.{emptied_of}
use Rattle.crush_since.proofs.RuleLaws.{seen_more}
use Rattle.crush_since.proofs.since.emptied.push_rules.Goals as goal

pub loop-rule-preserved : goal.loop-rule-preserved
loop-rule-preserved g c = λ t u a b right.
    let before = c.loop-rule.invariant t u a b right in (
      c.in_ok-push_rule.ensures.cache t u a b before.0,
      one_more _ _ _ _ _ _ before.1 (c.in_ok-push_rule.ensures.changes t u a b before.0)
          (seen_more (emptied_of c.args.identity t u) rule_data c.args.rules.now c.loop-rule.rule-index c.rule-item.result c.loop-rule-test.true c.rule-item.is),
    )

pub returns-clause-cache : goal.returns-clause-cache
returns-clause-cache g c = λ t u a b right. (c.loop-rule.invariant t u a b right).0
