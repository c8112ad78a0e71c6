use Rattle.std.proofs.Common.{◌==◌, sym, ap, ◌∙◌, map}
use Rattle.std.specs.Prelude.{find}
use Rattle.std.proofs.lemmas.List.{take_all}
use Rattle.crush_edits.specs.Setting.{RuleData}
use Rattle.crush_edits.specs.SettingSeen.{rule_data}
use Rattle.crush_since.proofs.Finds.{found_here, not_here, equal, other}
use Rattle.crush_json.proofs.rules.rule_of.Goals as goal

pub returns-then-rule-id : goal.returns-then-rule-id
returns-then-rule-id c =
    found_here rule_data (λ (r : RuleData). r.id == c.args.id) c.args.rules.now c.loop-rule.rule-index c.rule-item.result c.loop-rule-test.true c.rule-item.is c.loop-rule.invariant (equal _ _ c.if-rule-id.true)

pub loop-rule-preserved : goal.loop-rule-preserved
loop-rule-preserved c =
    not_here rule_data (λ (r : RuleData). r.id == c.args.id) c.args.rules.now c.loop-rule.rule-index c.rule-item.result c.loop-rule-test.true c.rule-item.is c.loop-rule.invariant (other _ _ c.if-rule-id.false)

pub returns : goal.returns
returns c =
    sym c.loop-rule.invariant ∙ ap (λ rs. find (λ (r : RuleData). r.id == c.args.id) (map rule_data rs)) (take_all c.loop-rule.rule-index c.args.rules.now c.loop-rule-test.false)
