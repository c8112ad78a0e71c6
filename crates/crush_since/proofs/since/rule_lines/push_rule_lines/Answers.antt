use Rattle.crush_print.proofs.WalkLaws.{one_more}
use Rattle.crush_since.specs.Rules.{rule_change_line}
use Rattle.crush_since.specs.RulesSeen.{rule_change_data}
use Rattle.crush_since.proofs.RuleLaws.{seen_more}
use Rattle.crush_since.proofs.since.rule_lines.push_rule_lines.Goals as goal

pub loop-index-preserved : goal.loop-index-preserved
loop-index-preserved c =
    one_more _ _ _ _ _ _ c.loop-index.invariant c.in_ok-push_change.ensures (seen_more rule_change_line rule_change_data c.args.changes.now c.loop-index.index c.change_at-change.result.now c.loop-index-test.true c.change_at-change.ensures)
