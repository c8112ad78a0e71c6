-- Proves that a map compared with itself has no differences in rules and classes, whether buckets are matched by their ids or by their names.
use Rattle.std.proofs.Common.{◌≡◌, ℕ, Bool, true, false, List, [], ◌++◌, ap, sym, refl, ◌∙◌, eq-eqb}
use Rattle.std.specs.Prelude.{Option, None, Some, ◌==◌, ◌&&◌, not, if◌then◌else◌, codes, bytes_eq, option_and_then, flat_map}
use Rattle.std.specs.Option.{option_map_or}
use Rattle.std.specs.Cmp.Lexicographic.{pointwise}
use Rattle.std.specs.Cmp.{signed_Decides}
use Rattle.crush_units.specs.declared.id.ItemId.TheVariants.{Bucket}
use Rattle.crush_compare.specs.declared.identity.Identity.{Identity}
use Rattle.crush_compare.specs.declared.identity.Identity.TheVariants.{Ids, Names}
use Rattle.crush_edits.specs.Setting.{StepData, take, choose, set, emit, RuleData, SettingData}
use Rattle.crush_model.specs.Lawful.{Lawful}
use Rattle.crush_model.specs.Table.{Row, name_of}
use Rattle.crush_model.proofs.NameColumn.{id_named-by}
use Rattle.crush_model.proofs.Tested.{bytes_itself}
use Rattle.crush_print.specs.RuleLines.{bucket_name}
use Rattle.crush_since.specs.Emptied.{taken_weight, old_bucket, weight_before, is_emptied, if_emptied, emptied_by, emptied_of, emptied_rules}
use Rattle.crush_since.specs.RuleChanges.{rule_changes, lines_beside}
use Rattle.crush_since.specs.Rules.{RuleChangeData, changed_rules, or_order, rule_change_lines}
use Rattle.crush_since.specs.RulesByName.{named_step, named_rule, same_rule_by}
use Rattle.crush_since.specs.Settings.{same_tunable, same_rule, listed_if_not, tunables_line, kinds_line}
use Rattle.crush_since.specs.Since.{plain_map}
use Rattle.crush_since.proofs.ClassLaws.{no_classes}
use Rattle.crush_since.proofs.SinceItself.{nothing_of, pairs_itself, option_itself, text_itself, bool_itself, rule_itself, tunable_itself, kinds_itself, not_emptied}
use Rattle.crush_edits.specs.Stops.{bucket_named, number_of}

-- RULES: each step and each rule is the same as itself
named_step_itself : (t : List Row) (x : StepData) → named_step t t x x ≡ true
named_step_itself t (take b c) = λ i. text_itself (name_of t (Bucket b)) i && text_itself c i
named_step_itself t (choose l f n k) = λ i. bool_itself l i && bool_itself f i && (signed_Decides n n).1 refl i && bytes_itself k i
named_step_itself t (set w v) = λ i. bytes_itself w i && eq-eqb v v refl i
named_step_itself t emit = refl

named_rule_itself : (t : List Row) (x : RuleData) → named_rule t t x x ≡ true
named_rule_itself t x = λ i.
    bytes_itself x.name i && eq-eqb x.id x.id refl i && bytes_itself x.kind i && option_itself x.min_size i && option_itself x.max_size i && pairs_itself (named_step t t) (named_step_itself t) x.steps i

rules_itself : (identity : Identity) (t : List Row) (rules : List RuleData) → pointwise (same_rule_by identity t t) rules rules ≡ true
rules_itself Ids t rules = pairs_itself same_rule rule_itself rules
rules_itself (Names devices) t rules = pairs_itself (named_rule t t) (named_rule_itself t) rules

-- a bucket that weighs nothing also weighed nothing before
never_more : (b : Bool) → (b && not true) ≡ false
never_more true = refl
never_more false = refl

none_emptied : (identity : Identity) (t : List Row) → Lawful t → (b : ℕ) (c : Option (List ℕ)) → is_emptied identity t t b c ≡ false
none_emptied Ids t l b c = not_emptied (taken_weight t b c)
none_emptied (Names devices) t l b c = by_name (name_of t (Bucket b)) refl where
  by_name : (o : Option (List ℕ)) → name_of t (Bucket b) ≡ o → ((taken_weight t b c == 0) && not (option_map_or (λ x. taken_weight t x c) (option_and_then (bucket_named t) o) 0 == 0)) ≡ false
  by_name None is = never_more (taken_weight t b c == 0)
  by_name (Some n) is =
      ap (λ o. (taken_weight t b c == 0) && not (option_map_or (λ x. taken_weight t x c) (option_and_then number_of o) 0 == 0)) (id_named-by t (Bucket b) n l.names is) ∙ not_emptied (taken_weight t b c)

no_emptied_step : (identity : Identity) (t : List Row) → Lawful t → (rule : List ℕ) (x : StepData) → emptied_by identity t t rule x ≡ []
no_emptied_step identity t l rule (take b c) = ap (λ z. if_emptied z rule (bucket_name t b) c) (none_emptied identity t l b c)
no_emptied_step identity t l rule (choose leaf f n k) = refl
no_emptied_step identity t l rule (set w v) = refl
no_emptied_step identity t l rule emit = refl

-- NO CHANGE of rules is found
pub no_rule_changes : (identity : Identity) (s : SettingData) (t : List Row) → Lawful t → rule_changes identity (plain_map s t) (plain_map s t) ≡ []
no_rule_changes identity s t l = λ k.
    (if rules_itself identity t s.rules k then [] else or_order (changed_rules (same_rule_by identity t t) s.rules s.rules))
    ++ nothing_of (emptied_of identity t t) (λ r. nothing_of (emptied_by identity t t r.name) (no_emptied_step identity t l r.name) r.steps) s.rules k

-- no line about settings, rules or classes is found
pub no_lines_beside : (identity : Identity) (s : SettingData) (t : List Row) → Lawful t → lines_beside identity (plain_map s t) (plain_map s t) ≡ []
unfolding lines_beside tunables_line kinds_line
no_lines_beside identity s t l = λ k.
    listed_if_not (pairs_itself same_tunable tunable_itself s.tunables k) (codes "tunables differ\n") ++ listed_if_not (kinds_itself s k) (codes "types differ\n") ++ rule_change_lines (no_rule_changes identity s t l k) ++ no_classes s t k
