-- Which settings are valid, and which of them fit a table.
use Rattle.std.specs.Prelude.{◌≡◌, ℕ, ℤ, pos, negsuc, ◌<◌, ◌≤◌, List, [], ◌∷◌, Bool, true, false, ◌==◌, length, All, IfSome, bytes_eq, codes, is_some, nat_eq}
use Rattle.std.specs.List.{count_by, list_any, starts_with}
use Rattle.crush_units.specs.declared.id.ItemId.TheVariants.{Bucket}
use Rattle.crush_units.specs.Name.{IsName}
use Rattle.crush_model.specs.Table.{Row, is_there}
use Rattle.crush_edits.specs.Setting.{KindData, TunableData, StepData, take, choose, set, emit, RuleData, SettingData, kind_number, taken_buckets}
use Rattle.crush_units.specs.declared.limits.TheConstants.{LARGEST_COUNT, LARGEST_RULE_NUMBER, LARGEST_TUNABLE, LAST_TYPE, MOST_RULES, MOST_STEPS, MOST_TUNABLES, MOST_TYPES}

-- whether the name is reserved, because a statement of a map's text, or a part of a statement, begins with this word. No type of buckets may have a reserved name
abbrev pub is_reserved : List ℕ → Bool
is_reserved n = list_any (λ word. bytes_eq word n) (codes "tunable" ∷ (codes "device" ∷ (codes "type" ∷ (codes "rule" ∷ (codes "class" ∷ (codes "choose_args" ∷ []))))))

-- a valid type: its number is in range, its name is a valid name, and the name isn't reserved unless the number is 0
pub record IsKind (k : KindData) : Type 0 where
  pub number : k.number ≤ LAST_TYPE
  pub name : IsName k.name
  pub free : 0 < k.number → is_reserved k.name ≡ false

-- a valid tunable: its name is a valid name, and its value is in range
pub record IsTunable (k : TunableData) : Type 0 where
  pub name : IsName k.name
  pub value : k.value ≤ LARGEST_TUNABLE

-- the count of a step fits a signed number of 32 bits
abbrev pub IsCount : ℤ → Type 0
IsCount (pos n) = n ≤ LARGEST_COUNT
IsCount (negsuc n) = n ≤ LARGEST_COUNT

-- a valid step that chooses: its count is in range, and the setting has a type with the name kind. This may also be type 0
pub record IsChoice (s : SettingData) (count : ℤ) (kind : List ℕ) : Type 0 where
  pub range : IsCount count
  pub known : is_some (kind_number s kind) ≡ true

-- a valid step that sets a parameter: the word is a valid name that begins with `set_`, and the value is in range
pub record IsSet (word : List ℕ) (value : ℕ) : Type 0 where
  pub name : IsName word
  pub sets : starts_with nat_eq word (codes "set_") ≡ true
  pub range : value ≤ LARGEST_RULE_NUMBER

-- a valid step. If a step that takes a bucket has a class, the class is a valid name
abbrev pub IsStep : SettingData → StepData → Type 0
IsStep s (take b class) = IfSome class IsName
IsStep s (choose leaf firstn count kind) = IsChoice s count kind
IsStep s (set word value) = IsSet word value
IsStep s emit = Unit {0}

-- a valid rule: its name and its kind are valid names, its numbers are in range, its steps are valid, and there are at most MOST_STEPS steps
pub record IsRule (s : SettingData) (r : RuleData) : Type 0 where
  pub name : IsName r.name
  pub id : r.id ≤ LARGEST_RULE_NUMBER
  pub kind : IsName r.kind
  pub min_size : IfSome r.min_size (λ n. n ≤ LARGEST_RULE_NUMBER)
  pub max_size : IfSome r.max_size (λ n. n ≤ LARGEST_RULE_NUMBER)
  pub few : length r.steps ≤ MOST_STEPS
  pub steps : All (IsStep s) r.steps

-- a valid setting: no two types have the same number or the same name, no two tunables have the same name, and no two rules have the same name or the same id. All types, tunables and rules are valid, and there are not too many of them
pub record IsSetting (s : SettingData) : Type 0 where
  pub numbers : (n : ℕ) → count_by (λ (k : KindData). k.number == n) s.kinds ≤ 1
  pub names : (n : List ℕ) → count_by (λ (k : KindData). bytes_eq k.name n) s.kinds ≤ 1
  pub tunable_names : (n : List ℕ) → count_by (λ (k : TunableData). bytes_eq k.name n) s.tunables ≤ 1
  pub rule_names : (n : List ℕ) → count_by (λ (r : RuleData). bytes_eq r.name n) s.rules ≤ 1
  pub rule_ids : (n : ℕ) → count_by (λ (r : RuleData). r.id == n) s.rules ≤ 1
  pub kinds : All IsKind s.kinds
  pub tunables : All IsTunable s.tunables
  pub rules : All (IsRule s) s.rules
  pub few_kinds : length s.kinds ≤ MOST_TYPES
  pub few_tunables : length s.tunables ≤ MOST_TUNABLES
  pub few_rules : length s.rules ≤ MOST_RULES

-- the setting has a type with the row's type number. Type 0, which is the type of devices, need not be in the setting
abbrev pub HasKind : SettingData → Row → Type 0
HasKind s r = (0 < r.kind) → list_any (λ (k : KindData). k.number == r.kind) s.kinds ≡ true

-- the table has the bucket
abbrev pub IsThere : List Row → ℕ → Type 0
IsThere t b = is_there t (Bucket b) ≡ true

-- FITS: the setting is valid, it has the types of all rows of the table except type 0, and the table has all buckets that rules take
pub record Fits (s : SettingData) (t : List Row) : Type 0 where
  pub setting : IsSetting s
  pub types : All (HasKind s) t
  pub taken : All (IsThere t) (taken_buckets s)
