-- The differences between the rules of two maps.
use Rattle.std.specs.Prelude.{ℕ, Bool, List, [], ◌∷◌, ◌++◌, Option, None, Some, if◌then◌else◌, is_some, find, flat_map, codes, bytes_eq}
use Rattle.std.specs.Cmp.Lexicographic.{pointwise}
use Rattle.crush_edits.specs.Setting.{RuleData}

-- a difference between the rules of two maps. The first three are about a rule, given by its name: only the new map has the rule, the rule differs, or only the old map has the rule. The fourth says that the rules are in another order. The last is about a rule that takes nothing. It has the name of the rule, and the name of the bucket and the class that one of the rule's steps takes
pub data RuleChangeData : Type 0 where
  rule_new : List ℕ → RuleChangeData
  rule_differs : List ℕ → RuleChangeData
  rule_gone : List ℕ → RuleChangeData
  rules_in_other_order : RuleChangeData
  rule_takes_nothing : List ℕ → List ℕ → Option (List ℕ) → RuleChangeData

abbrev pub change_unless : Bool → RuleChangeData → List RuleChangeData
change_unless same change = if same then [] else change ∷ []

-- the first rule that has the name n; none if no rule has it
abbrev pub rule_named : List ℕ → List RuleData → Option RuleData
rule_named n rules = find (λ (r : RuleData). bytes_eq r.name n) rules

-- the difference for a rule of the new map, given the old map's rule of the same name, if there is one; no difference if the two rules are the same
abbrev pub beside : (RuleData → RuleData → Bool) → Option RuleData → RuleData → List RuleChangeData
beside same None y = rule_new y.name ∷ []
beside same (Some x) y = change_unless (same x y) (rule_differs y.name)

abbrev pub new_rule : (RuleData → RuleData → Bool) → List RuleData → RuleData → List RuleChangeData
new_rule same a y = beside same (rule_named y.name a) y

-- the difference for a rule of the old map, if no rule of the new map has its name
abbrev pub gone_rule : List RuleData → RuleData → List RuleChangeData
gone_rule b x = change_unless (is_some (rule_named x.name b)) (rule_gone x.name)

-- the rules that differ. First come the rules of the new map that are new or not the same, in the new map's order, and then the rules that only the old map has, in the old map's order
abbrev pub changed_rules : (RuleData → RuleData → Bool) → List RuleData → List RuleData → List RuleChangeData
changed_rules same a b = flat_map (new_rule same a) b ++ flat_map (gone_rule b) a

-- the given differences. If there are none, the difference that the rules are in another order
abbrev pub or_order : List RuleChangeData → List RuleChangeData
or_order [] = rules_in_other_order ∷ []
or_order (x ∷ xs) = x ∷ xs

-- RULE DIFFERENCES: the rules that are new, differ or are gone. If there is no such rule, but the rules are in another order, there is only this difference. There is no difference if both maps have the same rules in the same order
abbrev pub rule_differences : (RuleData → RuleData → Bool) → List RuleData → List RuleData → List RuleChangeData
rule_differences same a b = if pointwise same a b then [] else or_order (changed_rules same a b)

-- LINES: the word for what a step takes is `BUCKET`, or `BUCKET~CLASS` if it takes a class
abbrev pub taken_word : List ℕ → Option (List ℕ) → List ℕ
taken_word name None = name
taken_word name (Some c) = name ++ codes "~" ++ c

unfoldable pub rule_takes : List ℕ → List ℕ
rule_takes rule = codes "rule " ++ rule ++ codes " takes nothing: "

unfoldable pub weighs_nothing : List ℕ
weighs_nothing = codes " weighs 0.00000\n"

abbrev pub emptied_line : List ℕ → List ℕ → Option (List ℕ) → List ℕ
emptied_line rule name c = rule_takes rule ++ taken_word name c ++ weighs_nothing

unfoldable pub other_order : List ℕ
other_order = codes "rules stand in another order\n"

abbrev pub rule_line : List ℕ → List ℕ → List ℕ
rule_line name state = codes "rule " ++ name ++ state

-- the line for a difference
abbrev pub rule_change_line : RuleChangeData → List ℕ
rule_change_line (rule_new name) = rule_line name (codes " is new\n")
rule_change_line (rule_differs name) = rule_line name (codes " differs\n")
rule_change_line (rule_gone name) = rule_line name (codes " is gone\n")
rule_change_line rules_in_other_order = other_order
rule_change_line (rule_takes_nothing rule name c) = emptied_line rule name c

abbrev pub rule_change_lines : List RuleChangeData → List ℕ
rule_change_lines changes = flat_map rule_change_line changes
