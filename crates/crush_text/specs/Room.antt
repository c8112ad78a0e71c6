-- Whether a draft has room for one more statement, and whether words, values, items and rules may be used in it.
use Rattle.std.specs.Prelude.{◌≡◌, ℕ, ◌<◌, ◌≤◌, List, [], Option, None, true, false, is_some, nat_lt}
use Rattle.crush_units.specs.declared.id.ItemId.{ItemId}
use Rattle.crush_units.specs.declared.id.ItemId.TheVariants.{Device}
use Rattle.crush_units.specs.declared.limits.TheConstants.{LARGEST_RULE_NUMBER}
use Rattle.crush_model.specs.Table.{is_there, is_placed}
use Rattle.crush_edits.specs.Setting.{kind_number}
use Rattle.crush_edits.specs.Fits.{is_reserved}
use Rattle.crush_builder.specs.Built.{Draft}
use Rattle.crush_builder.specs.Building.{has_tunable, has_kind_number, has_kind_name, has_name, has_bucket_id, has_class, is_full_of_class_ids, is_full_of_tunables, is_full_of_devices, is_full_of_kinds, is_full_of_buckets}
use Rattle.crush_builder.specs.Faults.{is_closed}
use Rattle.crush_builder.specs.Rules.{complete_bucket_named, is_full_of_rules, has_rule_name, has_rule_id, steps_fault}
use Rattle.crush_edits.specs.declared.rule.Rule.{Rule}
use Rattle.crush_text.specs.declared.statement_kind.StatementKind.{StatementKind}
use Rattle.crush_text.specs.declared.statement_kind.StatementKind.TheVariants as statement_kinds
use Rattle.crush_text.specs.Role.{Role, El, number, tunable_name, type_number, type_name, device_id, new_name, bucket_id, id_or_alg, id_class, rule_name, rule_id, taken_bucket, step_type}

-- the draft has room for one more statement of this kind. For a bucket, the type also must not be type 0
abbrev pub HasRoom : Draft → StatementKind → Type 0
HasRoom d statement_kinds.Tunable = is_full_of_tunables d ≡ false
HasRoom d statement_kinds.Device = is_full_of_devices d ≡ false
HasRoom d statement_kinds.Type = is_full_of_kinds d ≡ false
HasRoom d (statement_kinds.Bucket k) = (nat_lt 0 k ≡ true) × (is_full_of_buckets d ≡ false)
HasRoom d statement_kinds.Rule = is_full_of_rules d ≡ false

-- the name w may be used in this role. If the role declares a name, w must be a new name, and only type 0 may have a reserved name. If the role refers to a bucket or a type, one with the name w must exist
abbrev pub IsFreeWord : Draft → Role → List ℕ → Type 0
IsFreeWord d tunable_name w = has_tunable d.setting w ≡ false
IsFreeWord d (type_name n) w = (0 < n → is_reserved w ≡ false) × (has_kind_name d.setting w ≡ false)
IsFreeWord d new_name w = has_name d w ≡ false
IsFreeWord d id_class w = has_class d w ≡ false
IsFreeWord d rule_name w = has_rule_name d.setting w ≡ false
IsFreeWord d taken_bucket w = is_some (complete_bucket_named d w) ≡ true
IsFreeWord d step_type w = is_some (kind_number d.setting w) ≡ true
IsFreeWord d r w = Unit {0}

-- the value is in the range of its role
abbrev pub IsInRange : (r : Role) → El r → Type 0
IsInRange (number most) n = n ≤ most
IsInRange rule_id n = n ≤ LARGEST_RULE_NUMBER
IsInRange r v = Unit {0}

-- the value may be used in this role. The number of a type, and the id of a device, a bucket or a rule, must be new. In the role `id_or_alg`, the value says whether a class id follows. If so, the bucket must have room for one more class id
abbrev pub IsFreeValue : Draft → (r : Role) → El r → Type 0
IsFreeValue d type_number n = has_kind_number d.setting n ≡ false
IsFreeValue d device_id n = is_there d.table (Device n) ≡ false
IsFreeValue d bucket_id b = has_bucket_id d b ≡ false
IsFreeValue d id_or_alg more = more ≡ true → is_full_of_class_ids d ≡ false
IsFreeValue d rule_id n = has_rule_id d.setting n ≡ false
IsFreeValue d r v = Unit {0}

-- the item is a device or a complete bucket, and no bucket holds it
abbrev pub IsFreeItem : Draft → ItemId → Type 0
IsFreeItem d i = (is_closed d i ≡ true) × (is_placed d.table i ≡ false)

-- the rule r can be added to the draft: no rule of the draft has the name or the id of r, r has at most MOST_STEPS steps, and each bucket or type that a step names exists
pub record IsFreeRule (d : Draft) (r : Rule) : Type 0 where
  pub name : has_rule_name d.setting r.name ≡ false
  pub id : has_rule_id d.setting r.id ≡ false
  pub steps : steps_fault d 0 r.steps.items ≡ None

-- the rule r has the name x, the id n, the word k after `type`, these sizes of pools, and no steps yet
pub record IsHead (x : List ℕ) (n : ℕ) (k : List ℕ) (least most : Option ℕ) (r : Rule) : Type 0 where
  pub name : r.name ≡ x
  pub id : r.id ≡ n
  pub kind : r.kind ≡ k
  pub min_size : r.min_size ≡ least
  pub max_size : r.max_size ≡ most
  pub steps : r.steps.items ≡ []
