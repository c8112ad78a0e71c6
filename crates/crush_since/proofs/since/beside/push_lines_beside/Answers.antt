use Rattle.std.proofs.Common.{◌∙◌, ◌++◌}
use Rattle.std.proofs.lemmas.Result.{on_ok_weaker}
use Rattle.crush_since.specs.Classes.{class_lines}
use Rattle.crush_since.specs.RuleChanges.{rule_changes, lines_beside}
use Rattle.crush_since.specs.Rules.{rule_change_lines}
use Rattle.crush_since.specs.Settings.{tunables_line, kinds_line}
use Rattle.crush_since.specs.Since.{plain_map}
use Rattle.crush_since.proofs.PartLaws.{four_sections}
use Rattle.crush_since.proofs.since.beside.push_lines_beside.Goals as goal

pub returns : goal.returns
unfolding lines_beside
returns g c = λ t u a b.
    let s = c.args.old.now.setting in
    let p = c.args.new.now.setting in
    on_ok_weaker c.push_classes.result
    (λ is. four_sections _ _ _ _ _ (tunables_line s p) (kinds_line s p) (rule_change_lines (rule_changes c.args.identity (plain_map s t) (plain_map p u))) (class_lines t u p)
    (c.in_ok-push_tunables.ensures ∙ (λ i. c.args.out.now.items ++ tunables_line (c.setting.ensures i) (c.setting-2.ensures i)))
    (c.in_ok-push_kinds.ensures ∙ (λ i. c.push_tunables.new.out.items ++ kinds_line (c.setting-3.ensures i) (c.setting-4.ensures i)))
    (c.in_ok-push_rules.ensures t u a b) is)
    (c.push_classes.ensures t u a b)
