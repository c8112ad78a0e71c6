-- Rules with a step that takes a bucket which has lost all its weight. docs/user/FORMATS.md describes them in words.
use Rattle.std.specs.Prelude.{ℕ, ◌==◌, Bool, not, ◌&&◌, List, [], ◌∷◌, Option, None, Some, if◌then◌else◌, flat_map, option_and_then, unwrap_or}
use Rattle.std.specs.Option.{option_map_or}
use Rattle.crush_compare.specs.declared.identity.Identity.{Identity}
use Rattle.crush_compare.specs.declared.identity.Identity.TheVariants.{Ids, Names}
use Rattle.crush_units.specs.declared.id.ItemId.{ItemId}
use Rattle.crush_units.specs.declared.id.ItemId.TheVariants.{Bucket}
use Rattle.crush_model.specs.Classes.{class_weight_of}
use Rattle.crush_model.specs.Table.{Row, weight_of, name_of}
use Rattle.crush_edits.specs.Setting.{StepData, take, choose, set, emit, RuleData, SettingData}
use Rattle.crush_print.specs.RuleLines.{bucket_name}
use Rattle.crush_since.specs.Rules.{RuleChangeData, rule_takes_nothing, rule_change_lines}
use Rattle.crush_edits.specs.Stops.{bucket_named}

-- the weight of an item. If a class is given, the weight of the devices of this class that are the item or below it. The result is none if the table doesn't have the item
abbrev pub weight_as : List Row → Option (List ℕ) → ItemId → Option ℕ
weight_as t None i = weight_of t i
weight_as t (Some c) i = class_weight_of t i c

-- the weight of the bucket b or, if a class c is given, of its devices of this class; 0 if the table doesn't have the bucket
abbrev pub taken_weight : List Row → ℕ → Option (List ℕ) → ℕ
taken_weight t b c = unwrap_or (weight_as t c (Bucket b)) 0

-- the id of the old table's bucket that matches the new table's bucket b. `identity` says which bucket matches. With `Ids`, the result is the same id, even if the old table has no bucket with this id. With `Names`, the bucket with the same name matches; none if there is no such bucket
abbrev pub old_bucket : Identity → List Row → List Row → ℕ → Option ℕ
old_bucket Ids t u b = Some b
old_bucket (Names devices) t u b = option_and_then (bucket_named t) (name_of u (Bucket b))

-- the weight in the old table of the bucket that matches b or, if a class c is given, of its devices of this class; 0 if the old table has no matching bucket
abbrev pub weight_before : Identity → List Row → List Row → ℕ → Option (List ℕ) → ℕ
weight_before identity t u b c = option_map_or (λ o. taken_weight t o c) (old_bucket identity t u b) 0

-- whether the bucket b or, if a class c is given, its devices of this class have lost all their weight: the weight was above 0 in the old table, and it is 0 in the new table
abbrev pub is_emptied : Identity → List Row → List Row → ℕ → Option (List ℕ) → Bool
is_emptied identity t u b c = (taken_weight u b c == 0) && not (weight_before identity t u b c == 0)

-- the difference for a step of a rule if `is` is true: the step takes a bucket that has lost all its weight
abbrev pub if_emptied : Bool → List ℕ → List ℕ → Option (List ℕ) → List RuleChangeData
if_emptied is rule name c = if is then rule_takes_nothing rule name c ∷ [] else []

abbrev pub emptied_by : Identity → List Row → List Row → List ℕ → StepData → List RuleChangeData
emptied_by identity t u rule (take b c) = if_emptied (is_emptied identity t u b c) rule (bucket_name u b) c
emptied_by identity t u rule (choose leaf firstn count kind) = []
emptied_by identity t u rule (set word value) = []
emptied_by identity t u rule emit = []

-- the differences for all steps of one rule that take such a bucket
abbrev pub emptied_of : Identity → List Row → List Row → RuleData → List RuleChangeData
emptied_of identity t u r = flat_map (emptied_by identity t u r.name) r.steps

-- RULES THAT TAKE NOTHING: the differences for all steps of all rules that take such a bucket
abbrev pub emptied_rules : Identity → List Row → List Row → List RuleData → List RuleChangeData
emptied_rules identity t u rules = flat_map (emptied_of identity t u) rules

-- the lines about rules that take nothing, if buckets are matched by their ids
unfoldable pub emptied_lines : List Row → List Row → SettingData → List ℕ
emptied_lines t u s = rule_change_lines (emptied_rules Ids t u s.rules)
