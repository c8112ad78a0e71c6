-- The tokens of the value that says what has changed, in the order in which a writer writes them.
use Rattle.std.specs.Prelude.{List, ◌++◌, codes}
use Rattle.std.specs.Cmp.Lexicographic.{pointwise}
use Rattle.crush_model.specs.Table.{total}
use Rattle.crush_since.specs.Settings.{same_kinds, same_tunable}
use Rattle.crush_since.specs.Since.{PlainMap}
use Rattle.json.specs.Token.{Token}
use Rattle.crush_json.specs.RuleChanges.{rule_change_documents}
use Rattle.crush_json.specs.SinceDocument.{differ, totals_document}
use Rattle.crush_json.specs.Tokens.{member_tokens}
use Rattle.crush_json.specs.Values.{list}

-- the tokens of the members for the rules, the total weights, the tunables and the types
abbrev pub last_since_tokens : PlainMap → PlainMap → List Token
last_since_tokens old new =
    member_tokens (codes "rules") (list (rule_change_documents old new)) ++ (member_tokens (codes "total") (totals_document (total old.table) (total new.table))
    ++ (member_tokens (codes "tunables") (differ (pointwise same_tunable old.setting.tunables new.setting.tunables)) ++ member_tokens (codes "types") (differ (same_kinds old.setting new.setting))))
