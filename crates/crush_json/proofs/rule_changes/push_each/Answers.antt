use Rattle.crush_since.specs.RulesSeen.{rule_change_data}
use Rattle.crush_json.specs.RuleChanges.{rule_change_document}
use Rattle.crush_json.specs.Tokens.{tokens_of}
use Rattle.crush_json.proofs.Listed.{more, one_more}
use Rattle.crush_json.proofs.rule_changes.push_each.Goals as goal

pub loop-index-preserved : goal.loop-index-preserved
loop-index-preserved c =
    one_more _ _ _ _ _ _ c.loop-index.invariant c.in_ok-push_change.ensures
    (more (λ x. tokens_of (rule_change_document (rule_change_data x))) c.args.changes.now c.loop-index.index c.change_at-change.result.now c.loop-index-test.true c.change_at-change.ensures)
