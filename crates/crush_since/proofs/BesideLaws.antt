-- Proves that if items are matched by their ids, the lines beside the items are the lines about settings, about rules that take nothing, and about classes.
use Rattle.std.proofs.Common.{◌≡◌, ℕ, List, ◌++◌, ap, sym, ◌∙◌, append_assoc}
use Rattle.std.proofs.lemmas.List.Concat.{flat_map-append}
use Rattle.crush_compare.specs.declared.identity.Identity.TheVariants.{Ids}
use Rattle.crush_model.specs.Table.{total}
use Rattle.crush_since.specs.Classes.{class_lines}
use Rattle.crush_since.specs.Emptied.{emptied_rules, emptied_lines}
use Rattle.crush_since.specs.RuleChanges.{lines_beside}
use Rattle.crush_since.specs.Rules.{rule_differences, rule_change_line}
use Rattle.crush_since.specs.Settings.{same_rule, tunables_line, kinds_line, rules_line, setting_lines}
use Rattle.crush_since.specs.Since.{PlainMap, totals_line, last_lines}
use Rattle.crush_since.specs.Tallies.{counts_line}
use Rattle.crush_since.specs.declared.since.tally.Tally.{Tally}
use Rattle.crush_since.proofs.PartLaws.{three_sections}

pub beside_by_ids : (old new : PlainMap) → lines_beside Ids old new ≡ (setting_lines old.setting new.setting ++ emptied_lines old.table new.table new.setting) ++ class_lines old.table new.table new.setting
unfolding lines_beside setting_lines rules_line emptied_lines
beside_by_ids old new =
    let front : List ℕ = tunables_line old.setting new.setting ++ kinds_line old.setting new.setting in
    let differ = rule_differences same_rule old.setting.rules new.setting.rules in
    let emptied = emptied_rules Ids old.table new.table new.setting.rules in
    ap (λ l. (front ++ l) ++ class_lines old.table new.table new.setting) (flat_map-append rule_change_line differ emptied)
    ∙ ap (λ l. l ++ class_lines old.table new.table new.setting) (sym (append_assoc front _ _))

pub last_sections : (old new : PlainMap) (counts : Tally) (out one two three : List ℕ) → one ≡ out ++ lines_beside Ids old new → two ≡ one ++ totals_line (total old.table) (total new.table) → three ≡ two ++ counts_line counts
    → three ≡ out ++ last_lines old new counts
unfolding last_lines
last_sections old new counts out one two three is_one is_two is_three =
    three_sections out one two three _ _ _ (is_one ∙ ap (λ l. out ++ l) (beside_by_ids old new)) is_two is_three
