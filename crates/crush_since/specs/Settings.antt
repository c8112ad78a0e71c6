-- The differences between the settings of two maps: their tunables, types and rules.
use Rattle.std.specs.Prelude.{ℕ, ◌==◌, Bool, true, false, ◌&&◌, List, [], ◌++◌, if◌then◌else◌, map, codes, bytes_eq}
use Rattle.std.specs.Cmp.Lexicographic.{pointwise}
use Rattle.std.specs.List.{list_all}
use Rattle.std.specs.Ordering.{int_eq}
use Rattle.crush_edits.specs.Setting.{KindData, TunableData, StepData, take, choose, set, emit, RuleData, SettingData, kind_name}
use Rattle.crush_compare.specs.Equal.{same_option, same_text}
use Rattle.crush_since.specs.Rules.{rule_differences, rule_change_lines}

-- whether two tunables are the same. Two lists of tunables are the same only if they are in the same order
abbrev pub same_tunable : TunableData → TunableData → Bool
same_tunable x y = bytes_eq x.name y.name && (x.value == y.value)

-- whether two settings have the same types, in any order: each type number of either setting must have the same name in both settings
abbrev pub kind_numbers : SettingData → List ℕ
kind_numbers s = map (λ (k : KindData). k.number) s.kinds

abbrev pub agree_on : SettingData → SettingData → ℕ → Bool
agree_on a b n = same_text (kind_name a n) (kind_name b n)

abbrev pub same_kinds : SettingData → SettingData → Bool
same_kinds a b = list_all (agree_on a b) (kind_numbers a) && list_all (agree_on a b) (kind_numbers b)

-- whether two rules are the same. The buckets that steps take are compared by their ids, and not by their names
abbrev pub same_bool : Bool → Bool → Bool
same_bool true b = b
same_bool false true = false
same_bool false false = true

abbrev pub same_step : StepData → StepData → Bool
same_step (take b c) (take d e) = (b == d) && same_text c e
same_step (choose l f n k) (choose m g o j) = same_bool l m && same_bool f g && int_eq n o && bytes_eq k j
same_step (set w v) (set x y) = bytes_eq w x && (v == y)
same_step emit emit = true
same_step x y = false

abbrev pub same_rule : RuleData → RuleData → Bool
same_rule x y =
    bytes_eq x.name y.name && (x.id == y.id) && bytes_eq x.kind y.kind && same_option x.min_size y.min_size && same_option x.max_size y.max_size && pointwise same_step x.steps y.steps

-- the line `text`, or nothing if `same` is true
abbrev pub listed_if_not : Bool → List ℕ → List ℕ
listed_if_not same text = if same then [] else text

unfoldable pub tunables_line : SettingData → SettingData → List ℕ
tunables_line a b = listed_if_not (pointwise same_tunable a.tunables b.tunables) (codes "tunables differ\n")

unfoldable pub kinds_line : SettingData → SettingData → List ℕ
kinds_line a b = listed_if_not (same_kinds a b) (codes "types differ\n")

-- the lines about rules that are new, differ or are gone, or the line that says that the rules are in another order
unfoldable pub rules_line : SettingData → SettingData → List ℕ
rules_line a b = rule_change_lines (rule_differences same_rule a.rules b.rules)

unfoldable pub setting_lines : SettingData → SettingData → List ℕ
setting_lines a b = tunables_line a b ++ kinds_line a b ++ rules_line a b
