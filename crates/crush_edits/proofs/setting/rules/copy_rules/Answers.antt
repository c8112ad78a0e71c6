use Rattle.std.proofs.Common.{◌≡◌, [], ◌∷◌, ◌++◌, ap, sym, ◌∙◌}
use Rattle.std.specs.Prelude.{map}
use Rattle.std.proofs.lemmas.List.{take_more, take_all}
use Rattle.crush_edits.specs.SettingSeen.{rule_data}
use Rattle.crush_edits.proofs.SettingLaws.{map-push}
use Rattle.crush_edits.proofs.setting.rules.copy_rules.Goals as goal

pub loop-rule-preserved : goal.loop-rule-preserved
loop-rule-preserved c =
    let one : rule_data c.in_ok-rule.rule ≡ rule_data c.rule-item.result = c.in_ok-rule.ensures in
    ap (map rule_data) c.in_ok-push.ensures.items ∙ map-push rule_data _ c.in_ok-rule.rule
    ∙ (λ k. c.loop-rule.invariant k ++ (one ∙ ap rule_data c.rule-item.is) k ∷ [])
    ∙ sym (ap (map rule_data) (take_more _ c.loop-rule.rule-index c.rule-item.result c.loop-rule-test.true) ∙ map-push rule_data _ _)

pub returns : goal.returns
returns c = c.loop-rule.invariant ∙ ap (map rule_data) (take_all c.loop-rule.rule-index c.args.rules.now c.loop-rule-test.false)
