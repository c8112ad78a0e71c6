-- When two rules of two maps are the same if the buckets that they take are compared by their names.
use Rattle.std.specs.Prelude.{ℕ, ◌==◌, Bool, ◌&&◌, List, bytes_eq}
use Rattle.std.specs.Cmp.Lexicographic.{pointwise}
use Rattle.crush_compare.specs.declared.identity.Identity.{Identity}
use Rattle.crush_compare.specs.declared.identity.Identity.TheVariants.{Ids, Names}
use Rattle.crush_units.specs.declared.id.ItemId.TheVariants.{Bucket}
use Rattle.crush_model.specs.Table.{Row, name_of}
use Rattle.crush_edits.specs.Setting.{StepData, take, RuleData}
use Rattle.crush_since.specs.Equal.{same_option, same_text}
use Rattle.crush_since.specs.Settings.{same_step, same_rule}

-- whether the bucket b of one table and the bucket c of the other table have the same name
abbrev pub same_bucket : List Row → List Row → ℕ → ℕ → Bool
same_bucket t u b c = same_text (name_of t (Bucket b)) (name_of u (Bucket c))

-- whether two steps are the same. If both take a bucket, the buckets must have the same name, and the classes must be the same. For other steps, `same_step` decides
abbrev pub named_step : List Row → List Row → StepData → StepData → Bool
named_step t u (take b c) (take d e) = same_bucket t u b d && same_text c e
named_step t u x y = same_step x y

abbrev pub named_rule : List Row → List Row → RuleData → RuleData → Bool
named_rule t u x y =
    bytes_eq x.name y.name && (x.id == y.id) && bytes_eq x.kind y.kind && same_option x.min_size y.min_size && same_option x.max_size y.max_size
    && pointwise (named_step t u) x.steps y.steps

-- SAME RULES. The first argument says how the buckets that the rules take are compared: by their ids or by their names
abbrev pub same_rule_by : Identity → List Row → List Row → RuleData → RuleData → Bool
same_rule_by Ids t u = same_rule
same_rule_by (Names devices) t u = named_rule t u
