-- The line that says that the rules of two maps differ. The buckets that rules take are compared by their names.
use Rattle.std.specs.Prelude.{ℕ, List, codes}
use Rattle.std.specs.Cmp.Lexicographic.{pointwise}
use Rattle.crush_since.specs.ItemParts.{part}
use Rattle.crush_since.specs.RulesByName.{named_rule}
use Rattle.crush_since.specs.Since.{PlainMap}

-- a list that has the line which says that the rules differ; the empty list if both maps have the same rules in the same order
unfoldable pub named_rules_line : PlainMap → PlainMap → List (List ℕ)
named_rules_line old new = part (pointwise (named_rule old.table new.table) old.setting.rules new.setting.rules) (codes "rules differ")
