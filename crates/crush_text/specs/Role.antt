-- The roles of words: what a word is for, and which value it has in its role.
use Rattle.std.specs.Prelude.{ℕ, ℤ, Bool, true, false, List, Result, Ok, Err, bytes_eq, codes, drop, unwrap_or, if◌then◌else◌}
use Rattle.std.specs.Str.Parse.{digits_value}
use Rattle.crush_units.specs.declared.alg.Alg.{Alg}
use Rattle.crush_units.specs.declared.alg.Alg.TheVariants.{Straw2}
use Rattle.crush_units.specs.declared.id.ItemId.{ItemId}
use Rattle.crush_units.specs.declared.id.ItemId.TheVariants.{Device}
use Rattle.crush_units.specs.declared.weight.WeightFault.{WeightFault}
use Rattle.crush_units.specs.Alg.{alg_of_text}
use Rattle.crush_units.specs.Weight.{weight_of_text}
use Rattle.crush_edits.specs.Setting.{kind_number}
use Rattle.crush_builder.specs.Built.{Draft}
use Rattle.crush_builder.specs.Building.{item_named}
use Rattle.crush_builder.specs.Rules.{complete_bucket_named}
use Rattle.crush_text.specs.declared.statement_kind.StatementKind.{StatementKind}
use Rattle.crush_text.specs.declared.statement_kind.StatementKind.TheVariants as statement_kinds
use Rattle.crush_units.specs.Numbers.{signed_value}
use Rattle.crush_text.specs.declared.expected.Expected.{Expected}
use Rattle.crush_text.specs.declared.expected.Optional.{Optional}

-- the role of a word: what the word is for. A `key` is exactly the given word. An `any_word` can be any word except for a brace. Its field is what a fault at this word reports as expected. A `number` goes up to the given number. In `opening`, the Bool says whether a bucket or a rule was read before. In `item_or_end`, the Bool says whether the bucket already has an item. `type_name` has the number of the type, `weight` has the item with this weight, and `step_or_end` has the number of steps that the rule has so far. `opening`, `item_or_end` and `step_or_end` also have the optional part that could still follow, because the words just before have left it out. The name of an item is an `item` if a weight follows it, otherwise a `lone_item`
pub data Role : Type 0 where
  key : List ℕ → Role
  any_word : Expected → Role
  number : ℕ → Role
  opening : Bool → Optional → Role
  tunable_name : Role
  type_number : Role
  type_name : ℕ → Role
  device_id : Role
  new_name : Role
  bucket_id : Role
  id_or_alg : Role
  id_class : Role
  algorithm : Role
  item_or_end : Bool → Optional → Role
  item : Role
  lone_item : Role
  weight : ItemId → Role
  rule_name : Role
  rule_id_key : Role
  rule_id : Role
  step_or_end : ℕ → Optional → Role
  step_word : Role
  taken_bucket : Role
  step_order : Role
  step_count : Role
  step_type : Role

-- what the first word of a step means. `takes` is for the word `take`. `chooses` is for `choose`, or for `chooseleaf` if the Bool is true. `sets` is for a word that begins with `set_`. `emits` is for the word `emit`
pub data StepWord : Type 0 where
  takes : StepWord
  chooses : Bool → StepWord
  sets : List ℕ → StepWord
  emits : StepWord

-- the type of the value that a word of this role has
abbrev pub El : Role → Type 0
El (key k) = Unit {0}
El (any_word e) = List ℕ
El (number most) = ℕ
El (opening late or) = StatementKind
El tunable_name = List ℕ
El type_number = ℕ
El (type_name n) = List ℕ
El device_id = ℕ
El new_name = List ℕ
El bucket_id = ℕ
El id_or_alg = Bool
El id_class = List ℕ
El algorithm = Alg
El (item_or_end any or) = Bool
El item = ItemId
El lone_item = ItemId
El (weight i) = ℕ
El rule_name = List ℕ
El rule_id_key = Unit {0}
El rule_id = ℕ
El (step_or_end k or) = Bool
El step_word = StepWord
El taken_bucket = ℕ
El step_order = Bool
El step_count = ℤ
El step_type = List ℕ

-- the number of the type with this name, or 0 if there is no such type
abbrev pub kind_of_word : Draft → List ℕ → ℕ
kind_of_word d w = unwrap_or (kind_number d.setting w) 0

-- the item with this name. If there is no such item, this is device 0, but then the word has a fault
abbrev pub item_of : Draft → List ℕ → ItemId
item_of d w = unwrap_or (item_named d w) (Device 0)

-- the id of the complete bucket with this name. If there is no such bucket, this is 0, but then the word has a fault
abbrev pub bucket_of_word : Draft → List ℕ → ℕ
bucket_of_word d w = unwrap_or (complete_bucket_named d w) 0

-- the weight in units from the result of parsing a weight, or 0 if the text wasn't a weight
abbrev pub units_or_none : Result ℕ WeightFault → ℕ
units_or_none (Ok w) = w
units_or_none (Err f) = 0

-- the weight in units that a word spells. If the word isn't a weight, this is 0, but then the word has a fault
abbrev pub units : List ℕ → ℕ
units w = units_or_none (weight_of_text w)

-- the kind of the statement that the word begins. Every word other than the four keywords is taken as the name of a bucket's type
abbrev pub opened : Draft → List ℕ → StatementKind
opened d w =
    if bytes_eq w (codes "tunable") then statement_kinds.Tunable
    else (if bytes_eq w (codes "device") then statement_kinds.Device
    else (if bytes_eq w (codes "type") then statement_kinds.Type
    else (if bytes_eq w (codes "rule") then statement_kinds.Rule
    else statement_kinds.Bucket (kind_of_word d w))))

-- what a step's first word means. Every word other than the four keywords is taken as a word that begins with `set_`
abbrev pub step_said : List ℕ → StepWord
step_said w =
    if bytes_eq w (codes "take") then takes
    else (if bytes_eq w (codes "choose") then chooses false
    else (if bytes_eq w (codes "chooseleaf") then chooses true
    else (if bytes_eq w (codes "emit") then emits
    else sets w)))

-- the value of the word w in the role r. This value is used only if the word has no fault
abbrev pub value : Draft → (r : Role) → List ℕ → El r
value d (key k) w = tt
value d (any_word e) w = w
value d (number most) w = digits_value 10 w
value d (opening late or) w = opened d w
value d tunable_name w = w
value d type_number w = digits_value 10 w
value d (type_name n) w = w
value d device_id w = digits_value 10 w
value d new_name w = w
value d bucket_id w = digits_value 10 (drop 1 w)
value d id_or_alg w = bytes_eq w (codes "id")
value d id_class w = w
value d algorithm w = unwrap_or (alg_of_text w) Straw2
value d (item_or_end any or) w = bytes_eq w (codes "item")
value d item w = item_of d w
value d lone_item w = item_of d w
value d (weight i) w = units w
value d rule_name w = w
value d rule_id_key w = tt
value d rule_id w = digits_value 10 w
value d (step_or_end k or) w = bytes_eq w (codes "step")
value d step_word w = step_said w
value d taken_bucket w = bucket_of_word d w
value d step_order w = bytes_eq w (codes "firstn")
value d step_count w = signed_value w
value d step_type w = w
