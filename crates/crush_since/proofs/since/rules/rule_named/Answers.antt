use Rattle.std.proofs.Common.{sym, ap, ◌∙◌, map}
use Rattle.std.specs.Prelude.{bytes_eq}
use Rattle.std.proofs.lemmas.List.{take_all}
use Rattle.crush_edits.specs.Setting.{RuleData}
use Rattle.crush_edits.specs.SettingSeen.{rule_data}
use Rattle.crush_since.specs.Rules.{rule_named}
use Rattle.crush_since.proofs.Finds.{found_here, not_here}
use Rattle.crush_since.proofs.since.rules.rule_named.Goals as goal

pub returns-then-is : goal.returns-then-is
returns-then-is c =
    found_here rule_data (λ (r : RuleData). bytes_eq r.name c.args.name.now) c.args.rules.now c.loop-rule.rule-index c.rule-item.result c.loop-rule-test.true c.rule-item.is c.loop-rule.invariant
    (ap (λ b. bytes_eq c.rule-item.result.name b) (sym c.as_bytes.ensures.value) ∙ sym c.is.ensures.value ∙ c.if-is.true)

pub loop-rule-preserved : goal.loop-rule-preserved
loop-rule-preserved c =
    not_here rule_data (λ (r : RuleData). bytes_eq r.name c.args.name.now) c.args.rules.now c.loop-rule.rule-index c.rule-item.result c.loop-rule-test.true c.rule-item.is c.loop-rule.invariant
    (ap (λ b. bytes_eq c.rule-item.result.name b) (sym c.as_bytes.ensures.value) ∙ sym c.is.ensures.value ∙ c.if-is.false)

pub returns : goal.returns
returns c = sym c.loop-rule.invariant ∙ ap (λ rs. rule_named c.args.name.now (map rule_data rs)) (take_all c.loop-rule.rule-index c.args.rules.now c.loop-rule-test.false)
