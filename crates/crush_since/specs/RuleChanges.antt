-- The differences between the rules of two maps, and the lines that aren't about items.
use Rattle.std.specs.Prelude.{ℕ, List, [], ◌++◌, Option, None, Some}
use Rattle.crush_compare.specs.declared.identity.Identity.{Identity}
use Rattle.crush_since.specs.Classes.{class_lines}
use Rattle.crush_since.specs.Emptied.{emptied_rules}
use Rattle.crush_since.specs.Rules.{RuleChangeData, rule_differences, rule_change_lines}
use Rattle.crush_since.specs.RulesByName.{same_rule_by}
use Rattle.crush_since.specs.Settings.{tunables_line, kinds_line}
use Rattle.crush_since.specs.Since.{PlainMap}

-- RULE CHANGES: first come the rules that are new, differ or are gone, or the difference that the rules are in another order. Then comes a difference for each step of the new map's rules that takes a bucket which has lost all its weight
abbrev pub rule_changes : Identity → PlainMap → PlainMap → List RuleChangeData
rule_changes identity old new =
    rule_differences (same_rule_by identity old.table new.table) old.setting.rules new.setting.rules ++ emptied_rules identity old.table new.table new.setting.rules

-- LINES BESIDE the items: the lines about tunables, types, rules and classes
unfoldable pub lines_beside : Identity → PlainMap → PlainMap → List ℕ
lines_beside identity old new =
    tunables_line old.setting new.setting ++ kinds_line old.setting new.setting ++ rule_change_lines (rule_changes identity old new) ++ class_lines old.table new.table new.setting

-- the lines of `lines_beside` if no name is given. If a name is given, only a part of the maps is compared, and there are no lines
abbrev pub lines_beside_part : Identity → Option (List ℕ) → PlainMap → PlainMap → List ℕ
lines_beside_part identity None old new = lines_beside identity old new
lines_beside_part identity (Some n) old new = []
