use Rattle.std.proofs.Common.{[], ap, sym, ◌∙◌, map}
use Rattle.std.specs.Prelude.{if◌then◌else◌}
use Rattle.std.specs.Cmp.Lexicographic.{pointwise}
use Rattle.crush_since.specs.Rules.{changed_rules, or_order}
use Rattle.crush_since.specs.RulesByName.{same_rule_by}
use Rattle.crush_since.specs.RulesSeen.{rule_change_data}
use Rattle.crush_since.proofs.since.rules.rule_differences.Goals as goal

pub returns-then-are_same_rules : goal.returns-then-are_same_rules
returns-then-are_same_rules g c = λ t u x y.
    let same_rule = same_rule_by c.args.identity t u in
    let a = c.rules-before.ensures ∙ ap (λ s. s.rules) c.setting.ensures in
    let b = c.rules-after.ensures ∙ ap (λ s. s.rules) c.setting-2.ensures in
    let same = sym (c.are_same_rules.ensures t u x y ∙ (λ j. pointwise same_rule (a j) (b j))) ∙ c.if-are_same_rules.true in
    ap (map rule_change_data) c.new.ensures.items ∙ ap (λ z. if z then [] else or_order (changed_rules same_rule c.args.old.now.setting.rules c.args.new.now.setting.rules)) (sym same)

pub returns : goal.returns
returns g c = λ t u x y.
    let same_rule = same_rule_by c.args.identity t u in
    let a = c.rules-before.ensures ∙ ap (λ s. s.rules) c.setting.ensures in
    let b = c.rules-after.ensures ∙ ap (λ s. s.rules) c.setting-2.ensures in
    let other = sym (c.are_same_rules.ensures t u x y ∙ (λ j. pointwise same_rule (a j) (b j))) ∙ c.if-are_same_rules.false in
    c.in_ok-push_order_if_none.ensures ∙ ap or_order (c.in_ok-changes.ensures t u x y ∙ (λ j. changed_rules same_rule (a j) (b j)))
    ∙ ap (λ z. if z then [] else or_order (changed_rules same_rule c.args.old.now.setting.rules c.args.new.now.setting.rules)) (sym other)
