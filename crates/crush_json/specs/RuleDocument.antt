-- The rules of a map as JSON values, with the keys of `crushtool --dump`.
use Rattle.std.specs.Prelude.{ℕ, ℤ, ◌==◌, Bool, List, [], ◌∷◌, ◌++◌, Option, Some, None, codes, map, flat_map, find, option_and_then, bytes_eq, if◌then◌else◌}
use Rattle.std.specs.Option.{option_map, option_map_or}
use Rattle.crush_units.specs.Id.{bucket_number}
use Rattle.crush_model.specs.Items.{ShadowData}
use Rattle.crush_model.specs.Table.{Row}
use Rattle.crush_nodes.specs.Views.{class_ids_of}
use Rattle.crush_edits.specs.Setting.{StepData, take, choose, set, emit, RuleData, SettingData}
use Rattle.crush_print.specs.MapText.{ascending}
use Rattle.crush_print.specs.RuleLines.{bucket_name}
use Rattle.serde_json.specs.Data.{Data, string, object, member, no_members}
use Rattle.crush_json.specs.Values.{natural, whole, list, whole_if}

-- the id that a bucket has for this class, if the bucket has such an id. `ids` are all class ids of the bucket
abbrev pub class_id_among : List ShadowData → List ℕ → Option ℕ
class_id_among ids class = option_map (λ (x : ShadowData). x.id) (find (λ (x : ShadowData). bytes_eq x.class class) ids)

-- the id of what a step takes. If the step takes a class, this is the id that the bucket has for the class, or None if the bucket has no such id. Otherwise this is the id of the bucket
abbrev pub taken_id : List Row → ℕ → Option (List ℕ) → Option ℕ
taken_id t b None = Some b
taken_id t b (Some class) = option_and_then (λ ids. class_id_among ids class) (class_ids_of t b)

-- the name that the bucket has in the table, or an empty name if the table doesn't have the bucket. If the step takes a class, `~` and the class follow the name
abbrev pub taken_name : List Row → ℕ → Option (List ℕ) → List ℕ
taken_name t b None = bucket_name t b
taken_name t b (Some class) = bucket_name t b ++ codes "~" ++ class

unfoldable pub take_document : List Row → ℕ → Option (List ℕ) → Data
take_document t b class =
    object (whole_if (codes "item") (option_map bucket_number (taken_id t b class)) (member (codes "item_name") (string (taken_name t b class)) (member (codes "op") (string (codes "take")) no_members)))

-- the word for a step that chooses items. `leaf` and `firstn` say which of the four words this is
unfoldable pub choice_word : Bool → Bool → List ℕ
choice_word leaf firstn =
    if leaf then (if firstn then codes "chooseleaf_firstn" else codes "chooseleaf_indep")
    else (if firstn then codes "choose_firstn" else codes "choose_indep")

unfoldable pub choose_document : Bool → Bool → ℤ → List ℕ → Data
choose_document leaf firstn count kind =
    object (member (codes "num") (whole count) (member (codes "op") (string (choice_word leaf firstn)) (member (codes "type") (string kind) no_members)))

unfoldable pub set_document : List ℕ → ℕ → Data
set_document word value = object (member (codes "num") (natural value) (member (codes "op") (string word) no_members))

unfoldable pub emit_document : Data
emit_document = object (member (codes "op") (string (codes "emit")) no_members)

-- the value for a step
abbrev pub step_document : List Row → StepData → Data
step_document t (take b class) = take_document t b class
step_document t (choose leaf firstn count kind) = choose_document leaf firstn count kind
step_document t (set word value) = set_document word value
step_document t emit = emit_document

-- the kind of pools that a rule serves. The value is Ceph's number for the kinds `replicated` and `erasure`. For any other kind, the value is the word itself
unfoldable pub served : List ℕ → Data
served kind = if bytes_eq kind (codes "replicated") then natural 1 else (if bytes_eq kind (codes "erasure") then natural 3 else string kind)

-- the value for a rule
unfoldable pub rule_document : List Row → RuleData → Data
rule_document t r =
    object (member (codes "rule_id") (natural r.id) (member (codes "rule_name") (string r.name)
    (member (codes "steps") (list (map (step_document t) r.steps)) (member (codes "type") (served r.kind) no_members))))

-- the ids of the rules, from the least to the greatest
unfoldable pub rule_ids : SettingData → List ℕ
rule_ids s = ascending (map (λ (r : RuleData). r.id) s.rules)

-- the first rule with this id, if there is one
abbrev pub rule_of : SettingData → ℕ → Option RuleData
rule_of s n = find (λ (r : RuleData). r.id == n) s.rules

-- the value for the first rule with this id, as a list. The list is empty if there is no such rule
abbrev pub rules_at : SettingData → List Row → ℕ → List Data
rules_at s t n = option_map_or (λ r. rule_document t r ∷ []) (rule_of s n) []

-- the values for the rules, by ascending id
unfoldable pub rule_documents : SettingData → List Row → List Data
rule_documents s t = flat_map (rules_at s t) (rule_ids s)
