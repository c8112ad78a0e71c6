-- The setting of a map: its types, tunables and rules. These are the parts of a map other than its items.
use Rattle.std.specs.Prelude.{ℕ, ℤ, List, [], ◌∷◌, Option, Bool, ◌==◌, find, flat_map, bytes_eq}
use Rattle.std.specs.List.{list_any}
use Rattle.std.specs.Option.{option_map}

-- a type: its number and its name
pub record KindData : Type 0 where
  pub number : ℕ
  pub name : List ℕ

-- a tunable: its name and its value
pub record TunableData : Type 0 where
  pub name : List ℕ
  pub value : ℕ

-- a step of a rule. take: the distance of a bucket's id below 0, and a class or none. choose: whether the step also chooses a device below each item (chooseleaf), whether the items after a failed item move up to its place (firstn), how many items the step chooses, and the name of their type. set: the name of a parameter, and its value. emit: outputs the items that were chosen
pub data StepData : Type 0 where
  take : ℕ → Option (List ℕ) → StepData
  choose : Bool → Bool → ℤ → List ℕ → StepData
  set : List ℕ → ℕ → StepData
  emit : StepData

-- a rule: its name, its id, the kind of pools that it serves, the smallest and the largest size of these pools, if the rule gives these sizes, and its steps in order
pub record RuleData : Type 0 where
  pub name : List ℕ
  pub id : ℕ
  pub kind : List ℕ
  pub min_size : Option ℕ
  pub max_size : Option ℕ
  pub steps : List StepData

-- types, tunables and rules, each in the order in which they were declared
pub record SettingData : Type 0 where
  pub kinds : List KindData
  pub tunables : List TunableData
  pub rules : List RuleData

-- the number of the first type that has the name, or none
abbrev pub first_number : List KindData → List ℕ → Option ℕ
first_number kinds n = option_map (λ (k : KindData). k.number) (find (λ (k : KindData). bytes_eq k.name n) kinds)

-- the name of the first type that has the number, or none
abbrev pub first_name : List KindData → ℕ → Option (List ℕ)
first_name kinds n = option_map (λ (k : KindData). k.name) (find (λ (k : KindData). k.number == n) kinds)

-- the number of the setting's first type that has the name, or none
abbrev pub kind_number : SettingData → List ℕ → Option ℕ
kind_number s n = first_number s.kinds n

-- the name of the setting's first type that has the number, or none
abbrev pub kind_name : SettingData → ℕ → Option (List ℕ)
kind_name s n = first_name s.kinds n

-- whether a tunable has the name
abbrev pub has_tunable : SettingData → List ℕ → Bool
has_tunable s n = list_any (λ (x : TunableData). bytes_eq x.name n) s.tunables

-- the bucket that a step takes, as a list with one element, or an empty list if the step takes no bucket
abbrev pub bucket_taken : StepData → List ℕ
bucket_taken (take b class) = b ∷ []
bucket_taken (choose leaf firstn count kind) = []
bucket_taken (set word value) = []
bucket_taken emit = []

-- the buckets that the steps of these rules take. A bucket that several steps take is in the list several times
abbrev pub taken_by : List RuleData → List ℕ
taken_by rules = flat_map (λ (r : RuleData). flat_map bucket_taken r.steps) rules

-- the buckets that the rules of the setting take
abbrev pub taken_buckets : SettingData → List ℕ
taken_buckets s = taken_by s.rules
