-- The tests of a word, in a form that can be computed: for each role, the faults that a word may have, in the order of their numbers. `Rows` has the same conditions as a table of faults.
use Rattle.std.specs.Prelude.{ℕ, Bool, true, false, not, ◌&&◌, ◌||◌, ◌==◌, nat_eq, nat_le, List, [], ◌∷◌, Result, Ok, Err, is_some, bytes_eq, codes, drop, if◌then◌else◌, None, Some}
use Rattle.std.specs.List.{starts_with}
use Rattle.std.specs.Str.Parse.{digits_value}
use Rattle.crush_units.specs.declared.id.ItemId.{ItemId}
use Rattle.crush_units.specs.declared.id.ItemId.TheVariants.{Device, Bucket}
use Rattle.crush_units.specs.declared.weight.WeightFault.{WeightFault}
use Rattle.crush_units.specs.Alg.{alg_of_text}
use Rattle.crush_units.specs.Weight.{weight_of_text}
use Rattle.crush_model.specs.Table.{is_there, is_placed}
use Rattle.crush_model.specs.Lawful.{is_too_heavy}
use Rattle.crush_edits.specs.Setting.{kind_number}
use Rattle.crush_edits.specs.Fits.{is_reserved}
use Rattle.crush_builder.specs.Built.{Draft, with_next_item}
use Rattle.crush_builder.specs.Building.{has_name, has_bucket_id, has_class, item_named, has_kind_number, has_kind_name, has_tunable, is_bucket_kind, is_full_of_devices, is_full_of_buckets, is_full_of_kinds, is_full_of_tunables, is_full_of_class_ids}
use Rattle.crush_builder.specs.Rules.{complete_bucket_named, has_rule_name, has_rule_id, is_full_of_rules}
use Rattle.crush_text.specs.declared.fault.TextFaultKind.{TextFaultKind}
use Rattle.crush_text.specs.declared.fault.TextFaultKind.TheVariants.{Unexpected, BadNumber, BadWeight, DuplicateId, DuplicateName, UnknownType, UnknownItem, SecondParent, OtherAlgorithm, LeftOut, UnknownBucketInRule, TooMany, SumTooLarge}
use Rattle.crush_units.specs.Numbers.{is_number, is_negative, is_signed}
use Rattle.crush_units.specs.Words.{is_brace_word}
use Rattle.crush_units.specs.declared.limits.TheConstants.{LARGEST_RULE_NUMBER}
use Rattle.crush_text.specs.Role.{Role, El, value, kind_of_word, item_of, units, key, any_word, number, opening, tunable_name, type_number, type_name, device_id, new_name, bucket_id, id_or_alg, id_class, algorithm, item_or_end, item, lone_item, weight, rule_name, rule_id_key, rule_id, step_or_end, step_word, taken_bucket, step_order, step_count, step_type}
use Rattle.crush_units.specs.declared.limits.TheConstants.{HEAVIEST_DEVICE, LAST_DEVICE_ID, LAST_TYPE, MOST_STEPS}

-- a test: a fault, and whether the word has this fault
pub data Test : Type 0 where
  ◌when◌ : TextFaultKind → Bool → Test

infix 5 ◌when◌
-- the test that the word isn't a brace, followed by the tests `more`
abbrev pub a_word : List ℕ → List Test → List Test
a_word w more = (Unexpected when is_brace_word w) ∷ more

-- the tests that the word is a number up to `most`, followed by the tests `more`
abbrev pub a_number : ℕ → List ℕ → List Test → List Test
a_number most w more = a_word w ((BadNumber when not (is_number most w)) ∷ more)

-- whether w is k or l
abbrev pub is_either : List ℕ → List ℕ → List ℕ → Bool
is_either w k l = bytes_eq w k || bytes_eq w l

-- whether a word begins a tunable, a device or a type
abbrev pub comes_first : List ℕ → Bool
comes_first w = bytes_eq w (codes "tunable") || is_either w (codes "device") (codes "type")

-- whether the word is a brace or `class`, or comes too late: tunables, devices and types must come before the buckets and the rules. `late` says whether a bucket or a rule was read
abbrev pub is_out_of_place : Bool → List ℕ → Bool
is_out_of_place late w = is_brace_word w || (bytes_eq w (codes "class") || (late && comes_first w))

-- whether the word begins a statement of any kind, or is `choose_args`
abbrev pub is_known : Draft → List ℕ → Bool
is_known d w = comes_first w || (is_either w (codes "rule") (codes "choose_args") || is_bucket_kind d.setting (kind_of_word d w))

-- whether the map has no room for one more statement of the kind that begins with this word
abbrev pub is_full : Draft → List ℕ → Bool
is_full d w =
    if bytes_eq w (codes "tunable") then is_full_of_tunables d
    else (if bytes_eq w (codes "device") then is_full_of_devices d
    else (if bytes_eq w (codes "type") then is_full_of_kinds d
    else (if bytes_eq w (codes "rule") then is_full_of_rules d
    else is_full_of_buckets d)))

-- whether the item may have the weight that parsing has given; false if parsing has failed
abbrev pub is_weight_for : ItemId → Result ℕ WeightFault → Bool
is_weight_for i (Err f) = false
is_weight_for (Device n) (Ok w) = nat_le w HEAVIEST_DEVICE
is_weight_for (Bucket b) (Ok w) = true

-- the tests of the weight of the item i, except for the test whether the sums of weights become too large
abbrev pub weight_tests : Draft → ItemId → List ℕ → List Test
weight_tests d i w = a_word w ((BadWeight when not (is_weight_for i (weight_of_text w))) ∷ [])

-- the tests of an item's name, followed by the tests `more`
abbrev pub item_tests : Draft → List ℕ → List Test → List Test
item_tests d w more = a_word w ((UnknownItem when not (is_some (item_named d w))) ∷ (SecondParent when is_placed d.table (item_of d w)) ∷ more)

-- whether a word begins a step that is supported
abbrev pub is_step_word : List ℕ → Bool
is_step_word w = bytes_eq w (codes "take") || (is_either w (codes "choose") (codes "chooseleaf") || (bytes_eq w (codes "emit") || starts_with nat_eq w (codes "set_")))

-- the tests of the word w in each role
abbrev pub word_tests : Draft → Role → List ℕ → List Test
word_tests d (key k) w = (Unexpected when not (bytes_eq w k)) ∷ []
word_tests d (any_word e) w = a_word w []
word_tests d (number most) w = a_number most w []
word_tests d (opening late or) w = (Unexpected when is_out_of_place late w) ∷ (UnknownType when not (is_known d w)) ∷ (LeftOut when bytes_eq w (codes "choose_args")) ∷ (TooMany when is_full d w) ∷ []
word_tests d tunable_name w = a_word w ((DuplicateName when has_tunable d.setting w) ∷ [])
word_tests d type_number w = a_number LAST_TYPE w ((DuplicateId when has_kind_number d.setting (digits_value 10 w)) ∷ [])
word_tests d (type_name n) w = (Unexpected when is_brace_word w || (is_reserved w && not (n == 0))) ∷ (DuplicateName when has_kind_name d.setting w) ∷ []
word_tests d device_id w = a_number LAST_DEVICE_ID w ((DuplicateId when is_there d.table (Device (digits_value 10 w))) ∷ [])
word_tests d new_name w = a_word w ((DuplicateName when has_name d w) ∷ [])
word_tests d bucket_id w = a_word w ((BadNumber when not (is_negative w)) ∷ (DuplicateId when has_bucket_id d (digits_value 10 (drop 1 w))) ∷ [])
word_tests d id_or_alg w = (Unexpected when not (is_either w (codes "id") (codes "alg"))) ∷ (TooMany when bytes_eq w (codes "id") && is_full_of_class_ids d) ∷ []
word_tests d id_class w = a_word w ((DuplicateName when has_class d w) ∷ [])
word_tests d algorithm w = a_word w ((OtherAlgorithm when not (is_some (alg_of_text w))) ∷ [])
word_tests d (item_or_end any or) w = (Unexpected when not (is_either w (codes "item") (codes "}") || (any && bytes_eq w (codes "pos")))) ∷ (LeftOut when bytes_eq w (codes "pos")) ∷ []
word_tests d item w = item_tests d w []
word_tests d lone_item w = item_tests d w ((SumTooLarge when is_too_heavy (with_next_item d (item_of d w) None).table) ∷ [])
word_tests d (weight i) w = a_word w ((BadWeight when not (is_weight_for i (weight_of_text w))) ∷ (SumTooLarge when is_too_heavy (with_next_item d i (Some (units w))).table) ∷ [])
word_tests d rule_name w = a_word w ((DuplicateName when has_rule_name d.setting w) ∷ [])
word_tests d rule_id_key w = (Unexpected when not (is_either w (codes "id") (codes "ruleset"))) ∷ []
word_tests d rule_id w = a_number LARGEST_RULE_NUMBER w ((DuplicateId when has_rule_id d.setting (digits_value 10 w)) ∷ [])
word_tests d (step_or_end k or) w = (Unexpected when not (is_either w (codes "step") (codes "}"))) ∷ (TooMany when bytes_eq w (codes "step") && nat_le MOST_STEPS k) ∷ []
word_tests d step_word w = (Unexpected when not (is_step_word w || bytes_eq w (codes "choosemsr"))) ∷ (LeftOut when bytes_eq w (codes "choosemsr")) ∷ []
word_tests d taken_bucket w = a_word w ((UnknownBucketInRule when not (is_some (complete_bucket_named d w))) ∷ [])
word_tests d step_order w = (Unexpected when not (is_either w (codes "firstn") (codes "indep"))) ∷ []
word_tests d step_count w = a_word w ((BadNumber when not (is_signed w)) ∷ [])
word_tests d step_type w = a_word w ((UnknownType when not (is_some (kind_number d.setting w))) ∷ [])

-- the value v if no test finds a fault; otherwise the first fault that a test finds
abbrev pub unless : {A : Type 0} → List Test → A → Result A TextFaultKind
unless [] v = Ok v
unless ((f when b) ∷ ts) v = if b then Err f else unless ts v

-- the value of the word w in the role r, or its fault
abbrev pub word_for : Draft → (r : Role) → List ℕ → Result (El r) TextFaultKind
word_for d r w = unless (word_tests d r w) (value d r w)
