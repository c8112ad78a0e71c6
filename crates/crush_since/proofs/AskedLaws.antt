-- Lemmas about whether there is any line about an item or a setting.
use Rattle.std.proofs.Common.{◌≡◌, ℕ, ◌+◌, ◌<◌, Bool, true, false, List, [], ◌∷◌, ◌++◌, length, get_or, take, ap, sym, ◌∙◌, refl}
use Rattle.std.specs.Prelude.{◌&&◌, ◌||◌, not, filter, flat_map, codes, if◌then◌else◌}
use Rattle.std.specs.Cmp.Lexicographic.{pointwise}
use Rattle.std.proofs.lemmas.List.{take_more}
use Rattle.std.proofs.lemmas.List.Elements.{filter-append}
use Rattle.crush_edits.specs.Setting.{RuleData, SettingData}
use Rattle.crush_model.specs.Table.{Row}
use Rattle.crush_since.specs.Rules.{RuleChangeData, rule_new, rule_differs, rule_gone, rules_in_other_order, rule_takes_nothing, changed_rules, or_order, other_order, rule_takes, rule_differences, rule_change_lines}
use Rattle.crush_since.specs.Changes.{has_some}
use Rattle.crush_since.specs.Since.{plain_map, all_ids, id_line, item_lines}
use Rattle.crush_since.specs.SincePart.{is_changed}
use Rattle.crush_since.specs.Settings.{same_kinds, same_rule, same_tunable, setting_lines, tunables_line, kinds_line, rules_line, listed_if_not}

-- THE SETTINGS have a line if they differ
some_line : (xs : List RuleChangeData) → has_some (rule_change_lines (or_order xs)) ≡ true
unfolding other_order rule_takes
some_line [] = refl
some_line (rule_new name ∷ xs) = refl
some_line (rule_differs name ∷ xs) = refl
some_line (rule_gone name ∷ xs) = refl
some_line (rules_in_other_order ∷ xs) = refl
some_line (rule_takes_nothing rule name c ∷ xs) = refl

rules_listed : (same : RuleData → RuleData → Bool) (a b : List RuleData) → has_some (rule_change_lines (rule_differences same a b)) ≡ not (pointwise same a b)
rules_listed same a b = at (pointwise same a b) (changed_rules same a b) where
  at : (z : Bool) (xs : List RuleChangeData) → has_some (rule_change_lines (if z then [] else or_order xs)) ≡ not z
  at true xs = refl
  at false xs = some_line xs

three_told : (x y z : Bool) (l : List ℕ) → has_some l ≡ not z → has_some (listed_if_not x (codes "tunables differ\n") ++ listed_if_not y (codes "types differ\n") ++ l) ≡ not (x && (y && z))
three_told true true z l h = h
three_told true false z l h = refl
three_told false y z l h = refl

abbrev are_same : SettingData → SettingData → Bool
are_same a b = pointwise same_tunable a.tunables b.tunables && (same_kinds a b && pointwise same_rule a.rules b.rules)

settings_told : (a b : SettingData) → has_some (setting_lines a b) ≡ not (are_same a b)
unfolding setting_lines tunables_line kinds_line rules_line
settings_told a b = three_told (pointwise same_tunable a.tunables b.tunables) (same_kinds a b) (pointwise same_rule a.rules b.rules) (rule_change_lines (rule_differences same_rule a.rules b.rules)) (rules_listed same_rule a.rules b.rules)

-- there is a line if one of the tests of tunables, types and rules is false; otherwise the last section decides
pub tunables_told : (a b : SettingData) → pointwise same_tunable a.tunables b.tunables ≡ false → true ≡ has_some (setting_lines a b)
tunables_told a b x = ap (λ z. not (z && (same_kinds a b && pointwise same_rule a.rules b.rules))) (sym x) ∙ sym (settings_told a b)

pub kinds_told : (a b : SettingData) → pointwise same_tunable a.tunables b.tunables ≡ true → same_kinds a b ≡ false → true ≡ has_some (setting_lines a b)
kinds_told a b x y = (λ k. not (sym x k && (sym y k && pointwise same_rule a.rules b.rules))) ∙ sym (settings_told a b)

pub rules_told : (a b : SettingData) → pointwise same_tunable a.tunables b.tunables ≡ true → same_kinds a b ≡ true → not (pointwise same_rule a.rules b.rules) ≡ has_some (setting_lines a b)
rules_told a b x y = (λ k. not (sym x k && (sym y k && pointwise same_rule a.rules b.rules))) ∙ sym (settings_told a b)

-- two joined lists have an element if and only if one of the lists has an element
pub some_of_both : {X : Type 0} (xs ys : List X) → has_some (xs ++ ys) ≡ has_some xs || has_some ys
some_of_both [] ys = refl
some_of_both (x ∷ xs) ys = refl

-- OF TWO MAPS: whether they have any line
or_true : (x : Bool) → x || true ≡ true
or_true true = refl
or_true false = refl

or_false : (x : Bool) → x || false ≡ x
or_false true = refl
or_false false = refl

pub setting_is_told : (s p : SettingData) (t u : List Row) → has_some (setting_lines s p) ≡ true → true ≡ is_changed (plain_map s t) (plain_map p u)
unfolding is_changed
setting_is_told s p t u some =
    let items = item_lines (plain_map s t) (plain_map p u) in
    sym (some_of_both items (setting_lines s p) ∙ ap (λ z. has_some items || z) some ∙ or_true (has_some items))

pub items_are_told : (s p : SettingData) (t u : List Row) (x : Bool) → has_some (setting_lines s p) ≡ false → x ≡ has_some (flat_map (id_line (plain_map s t) (plain_map p u)) (all_ids t u)) → x ≡ is_changed (plain_map s t) (plain_map p u)
unfolding is_changed item_lines
items_are_told s p t u x none_told is =
    let items = item_lines (plain_map s t) (plain_map p u) in is ∙ sym (some_of_both items (setting_lines s p) ∙ ap (λ z. has_some items || z) none_told ∙ or_false (has_some items))
