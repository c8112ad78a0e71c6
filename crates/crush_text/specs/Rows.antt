-- THE TABLE OF FAULTS. It has a row for each fault, which says in which cases a word of a role has this fault. r is the word's role, w is the word, and d is the draft before the word's line. (A draft is an unfinished map.)
use Rattle.std.specs.Prelude.{◌≡◌, ◌≢◌, ◌<◌, ◌≤◌, ◌⊎◌, ℕ, true, false, nat_eq, List, Result, Ok, Err, None, codes, drop, Some}
use Rattle.std.specs.List.{starts_with}
use Rattle.std.specs.Str.Parse.{digits_value}
use Rattle.crush_units.specs.declared.id.ItemId.{ItemId}
use Rattle.crush_units.specs.declared.id.ItemId.TheVariants.{Device, Bucket}
use Rattle.crush_units.specs.declared.weight.WeightFault.{WeightFault}
use Rattle.crush_units.specs.Alg.{alg_of_text}
use Rattle.crush_units.specs.Weight.{weight_of_text}
use Rattle.crush_model.specs.Table.{is_there, is_placed}
use Rattle.crush_model.specs.Lawful.{is_too_heavy}
use Rattle.crush_edits.specs.Setting.{kind_number}
use Rattle.crush_edits.specs.Fits.{is_reserved}
use Rattle.crush_builder.specs.Built.{Draft, with_next_item}
use Rattle.crush_builder.specs.Building.{has_name, has_bucket_id, has_class, item_named, is_bucket_kind, has_kind_number, has_kind_name, has_tunable, is_full_of_devices, is_full_of_buckets, is_full_of_kinds, is_full_of_tunables, is_full_of_class_ids}
use Rattle.crush_builder.specs.Rules.{complete_bucket_named, has_rule_name, has_rule_id, is_full_of_rules}
use Rattle.crush_text.specs.declared.fault.TextFaultKind.{TextFaultKind}
use Rattle.crush_text.specs.declared.fault.TextFaultKind.TheVariants.{Unexpected, BadNumber, BadWeight, DuplicateId, DuplicateName, UnknownType, UnknownItem, SecondParent, OtherAlgorithm, LeftOut, UnknownBucketInRule, TooMany, SumTooLarge}
use Rattle.crush_units.specs.declared.limits.TheConstants.{LARGEST_RULE_NUMBER}
use Rattle.crush_text.specs.Fault.{fault_number}
use Rattle.crush_units.specs.Numbers.{is_number, is_negative, is_signed}
use Rattle.crush_text.specs.Role.{Role, kind_of_word, key, number, opening, tunable_name, type_number, type_name, device_id, new_name, bucket_id, id_or_alg, id_class, algorithm, item_or_end, item, lone_item, weight, rule_name, rule_id_key, rule_id, step_or_end, step_word, taken_bucket, step_order, step_count, step_type}
use Rattle.crush_units.specs.declared.limits.TheConstants.{HEAVIEST_DEVICE, LAST_DEVICE_ID, LAST_TYPE, MOST_STEPS}

-- `{` or `}`
abbrev pub IsBrace : List ℕ → Type 0
IsBrace w = (w ≡ codes "{") ⊎ (w ≡ codes "}")

-- `tunable`, `device` or `type`
abbrev pub ComesFirst : List ℕ → Type 0
ComesFirst w = (w ≡ codes "tunable") ⊎ ((w ≡ codes "device") ⊎ (w ≡ codes "type"))

-- the word w is neither k nor l
abbrev pub IsNeither : List ℕ → List ℕ → List ℕ → Type 0
IsNeither w k l = (w ≢ k) × (w ≢ l)

-- the word can't be the first word of a step, not even of a step that isn't supported (`choosemsr`)
abbrev pub IsNoStepWord : List ℕ → Type 0
IsNoStepWord w = (w ≢ codes "take") × IsNeither w (codes "choose") (codes "chooseleaf") × (w ≢ codes "emit") × (starts_with nat_eq w (codes "set_") ≡ false) × (w ≢ codes "choosemsr")

-- UNEXPECTED: a word or a brace that the grammar doesn't allow here, or a name that only type 0 may have
abbrev pub IsUnexpected : Role → List ℕ → Type 0
IsUnexpected (key k) w = w ≢ k
IsUnexpected (opening late or) w = IsBrace w ⊎ ((w ≡ codes "class") ⊎ ((late ≡ true) × ComesFirst w))
IsUnexpected (type_name n) w = IsBrace w ⊎ ((is_reserved w ≡ true) × (n ≢ 0))
IsUnexpected id_or_alg w = IsNeither w (codes "id") (codes "alg")
IsUnexpected (item_or_end any or) w = (w ≢ codes "item") × (w ≢ codes "}") × (any ≡ true → w ≢ codes "pos")
IsUnexpected rule_id_key w = IsNeither w (codes "id") (codes "ruleset")
IsUnexpected (step_or_end k or) w = IsNeither w (codes "step") (codes "}")
IsUnexpected step_word w = IsNoStepWord w
IsUnexpected step_order w = IsNeither w (codes "firstn") (codes "indep")
IsUnexpected r w = IsBrace w

-- BAD NUMBER: the word isn't a number, or it isn't in the range that is allowed here
abbrev pub IsBadNumber : Role → List ℕ → Type 0
IsBadNumber (number most) w = is_number most w ≡ false
IsBadNumber type_number w = is_number LAST_TYPE w ≡ false
IsBadNumber device_id w = is_number LAST_DEVICE_ID w ≡ false
IsBadNumber bucket_id w = is_negative w ≡ false
IsBadNumber rule_id w = is_number LARGEST_RULE_NUMBER w ≡ false
IsBadNumber step_count w = is_signed w ≡ false
IsBadNumber r w = ⊥

-- parsing has given no weight that the item may have: parsing has failed, or the item is a device and the weight is too large for a device
abbrev pub IsNoWeightOf : ItemId → Result ℕ WeightFault → Type 0
IsNoWeightOf i (Err f) = Unit {0}
IsNoWeightOf (Device n) (Ok w) = HEAVIEST_DEVICE < w
IsNoWeightOf (Bucket b) (Ok w) = ⊥

-- BAD WEIGHT: the word doesn't spell a weight that the item may have
abbrev pub IsBadWeight : Role → List ℕ → Type 0
IsBadWeight (weight i) w = IsNoWeightOf i (weight_of_text w)
IsBadWeight r w = ⊥

-- DUPLICATE ID: an earlier line gives the same number to a type, or the same id to a device or a rule, or the same id to a bucket (for the bucket itself or for a class)
abbrev pub IsDuplicateId : Draft → Role → List ℕ → Type 0
IsDuplicateId d type_number w = has_kind_number d.setting (digits_value 10 w) ≡ true
IsDuplicateId d device_id w = is_there d.table (Device (digits_value 10 w)) ≡ true
IsDuplicateId d bucket_id w = has_bucket_id d (digits_value 10 (drop 1 w)) ≡ true
IsDuplicateId d rule_id w = has_rule_id d.setting (digits_value 10 w) ≡ true
IsDuplicateId d r w = ⊥

-- DUPLICATE NAME: an earlier line gives the same name to a tunable, a type, a rule or an item, whichever the word names. Or an earlier line of the same bucket gives an id for the same class
abbrev pub IsDuplicateName : Draft → Role → List ℕ → Type 0
IsDuplicateName d tunable_name w = has_tunable d.setting w ≡ true
IsDuplicateName d (type_name n) w = has_kind_name d.setting w ≡ true
IsDuplicateName d new_name w = has_name d w ≡ true
IsDuplicateName d id_class w = has_class d w ≡ true
IsDuplicateName d rule_name w = has_rule_name d.setting w ≡ true
IsDuplicateName d r w = ⊥

-- UNKNOWN TYPE. There are two cases. First, the word is the first word of a statement, isn't a reserved word, and isn't the name of a type whose number is above 0. Second, the word is the name of a type in a step, and no such type is declared
abbrev pub IsUnknownType : Draft → Role → List ℕ → Type 0
IsUnknownType d (opening late or) w = (is_reserved w ≡ false) × (is_bucket_kind d.setting (kind_of_word d w) ≡ false)
IsUnknownType d step_type w = kind_number d.setting w ≡ None
IsUnknownType d r w = ⊥

-- UNKNOWN ITEM: the word is neither the name of a declared device nor the name of a complete bucket. (A bucket is complete if its closing brace was read before)
abbrev pub IsUnknownItem : Draft → Role → List ℕ → Type 0
IsUnknownItem d item w = item_named d w ≡ None
IsUnknownItem d lone_item w = item_named d w ≡ None
IsUnknownItem d r w = ⊥

-- the word is the name of an item that a bucket already holds
abbrev pub IsHeldItem : Draft → List ℕ → Type 0
IsHeldItem d w = (i : ItemId) × (item_named d w ≡ Some i) × (is_placed d.table i ≡ true)

-- SECOND PARENT: a bucket already holds the item
abbrev pub IsSecondParent : Draft → Role → List ℕ → Type 0
IsSecondParent d item w = IsHeldItem d w
IsSecondParent d lone_item w = IsHeldItem d w
IsSecondParent d r w = ⊥

-- OTHER ALGORITHM: the word isn't the name of a supported algorithm
abbrev pub IsOtherAlgorithm : Role → List ℕ → Type 0
IsOtherAlgorithm algorithm w = alg_of_text w ≡ None
IsOtherAlgorithm r w = ⊥

-- LEFT OUT: the word begins a part of Ceph's grammar that isn't supported. This is `choose_args` as the first word of a statement, `pos` after an item, or `choosemsr` as the first word of a step
abbrev pub IsLeftOut : Role → List ℕ → Type 0
IsLeftOut (opening late or) w = w ≡ codes "choose_args"
IsLeftOut (item_or_end any or) w = (any ≡ true) × (w ≡ codes "pos")
IsLeftOut step_word w = w ≡ codes "choosemsr"
IsLeftOut r w = ⊥

-- UNKNOWN BUCKET IN RULE: the word after `take` isn't the name of a complete bucket
abbrev pub IsUnknownBucketInRule : Draft → Role → List ℕ → Type 0
IsUnknownBucketInRule d taken_bucket w = complete_bucket_named d w ≡ None
IsUnknownBucketInRule d r w = ⊥

-- the word begins a bucket: it is the name of a declared type other than type 0, and is none of the reserved words
abbrev pub BeginsBucket : Draft → List ℕ → Type 0
BeginsBucket d w = (is_reserved w ≡ false) × (is_bucket_kind d.setting (kind_of_word d w) ≡ true)

-- the word begins a tunable, a device, a type, a rule or a bucket, and the map has no room for one more of this kind
abbrev pub IsOneTooMany : Draft → List ℕ → Type 0
IsOneTooMany d w =
    ((w ≡ codes "tunable") × (is_full_of_tunables d ≡ true))
    ⊎ (((w ≡ codes "device") × (is_full_of_devices d ≡ true))
    ⊎ (((w ≡ codes "type") × (is_full_of_kinds d ≡ true))
    ⊎ (((w ≡ codes "rule") × (is_full_of_rules d ≡ true))
    ⊎ (BeginsBucket d w × (is_full_of_buckets d ≡ true)))))

-- TOO MANY: the text has one more tunable, type, device, bucket or rule than a map may have, or one more class id than a bucket may have, or one more step than a rule may have
abbrev pub IsTooMany : Draft → Role → List ℕ → Type 0
IsTooMany d (opening late or) w = IsOneTooMany d w
IsTooMany d id_or_alg w = (w ≡ codes "id") × (is_full_of_class_ids d ≡ true)
IsTooMany d (step_or_end k or) w = (w ≡ codes "step") × (MOST_STEPS ≤ k)
IsTooMany d r w = ⊥

-- SUM TOO LARGE: with this item, the weight of a bucket or the total weight is above its limit. If the item has no weight, its name has the fault. If the item has a weight, this weight has the fault, but only if the item may have this weight
abbrev pub IsSumTooLarge : Draft → Role → List ℕ → Type 0
IsSumTooLarge d lone_item w = (i : ItemId) × (item_named d w ≡ Some i) × (is_too_heavy (with_next_item d i None).table ≡ true)
IsSumTooLarge d (weight i) w = (u : ℕ) × (weight_of_text w ≡ Ok u) × (IsNoWeightOf i (Ok u) → ⊥) × (is_too_heavy (with_next_item d i (Some u)).table ≡ true)
IsSumTooLarge d r w = ⊥

-- the row of the fault f applies to the word
abbrev pub Holds : TextFaultKind → Draft → Role → List ℕ → Type 0
Holds Unexpected d r w = IsUnexpected r w
Holds BadNumber d r w = IsBadNumber r w
Holds BadWeight d r w = IsBadWeight r w
Holds DuplicateId d r w = IsDuplicateId d r w
Holds DuplicateName d r w = IsDuplicateName d r w
Holds UnknownType d r w = IsUnknownType d r w
Holds UnknownItem d r w = IsUnknownItem d r w
Holds SecondParent d r w = IsSecondParent d r w
Holds OtherAlgorithm d r w = IsOtherAlgorithm r w
Holds LeftOut d r w = IsLeftOut r w
Holds UnknownBucketInRule d r w = IsUnknownBucketInRule d r w
Holds TooMany d r w = IsTooMany d r w
Holds SumTooLarge d r w = IsSumTooLarge d r w
Holds f d r w = ⊥

-- no row of a fault with a smaller number than f's applies to the word
abbrev pub NoneBelow : TextFaultKind → Draft → Role → List ℕ → Type 0
NoneBelow f d r w = (g : TextFaultKind) → fault_number g < fault_number f → Holds g d r w → ⊥

-- f is the fault of the word: the row of f applies, and no row of a fault with a smaller number applies
abbrev pub IsFault : TextFaultKind → Draft → Role → List ℕ → Type 0
IsFault f d r w = Holds f d r w × NoneBelow f d r w

-- the word has no fault: no row applies
abbrev pub IsRight : Draft → Role → List ℕ → Type 0
IsRight d r w = (f : TextFaultKind) → Holds f d r w → ⊥
