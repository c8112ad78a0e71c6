-- WHICH MAP A DOCUMENT DESCRIBES: a setting, a table, and the number of adjusted weights. A weight that is written for a bucket is adjusted if it isn't the sum of the weights of the bucket's items. This file also says which documents are lawful.
use Rattle.std.specs.Prelude.{◌≡◌, ℕ, ◌+◌, ◌<◌, List, [], ◌∷◌, ◌++◌, false, Some, None, All, map, flat_map, unwrap_or}
use Rattle.crush_units.specs.declared.id.ItemId.{ItemId}
use Rattle.crush_units.specs.declared.id.ItemId.TheVariants.{Device, Bucket}
use Rattle.crush_units.specs.Id.{same_id}
use Rattle.crush_model.specs.Table.{Row, id_named, is_placed}
use Rattle.crush_model.specs.ItemRows.{device_row, bucket_row}
use Rattle.crush_model.specs.Lawful.{Lawful}
use Rattle.crush_edits.specs.Setting.{KindData, TunableData, StepData, take, choose, set, emit, RuleData, SettingData, kind_number}
use Rattle.crush_edits.specs.Stops.{bucket_named}
use Rattle.crush_edits.specs.Fits.{Fits}
use Rattle.crush_map.specs.WrittenItems.{put_below, weight_or_one, adjustment}
use Rattle.crush_units.specs.Words.{words, texts, ended}
use Rattle.crush_laws.specs.Document.{ItemLine, BucketLines, StepLine, takes, chooses, sets, emits, RuleLines, First, tunable, kind, device, Second, bucket, rule, Document}
use Rattle.crush_laws.specs.Spells.{Spells}

-- THE FIRST LINES of a document are types, tunables and devices. `first_kinds` gives the type that a line declares, as a list that is empty if the line declares no type
abbrev pub first_kinds : First → List KindData
first_kinds (kind n name) = record { number = n; name = name } ∷ []
first_kinds (tunable name n) = []
first_kinds (device n name class) = []

-- the tunable that a line sets, as a list that is empty if the line sets no tunable
abbrev pub first_tunables : First → List TunableData
first_tunables (tunable name n) = record { name = name; value = n } ∷ []
first_tunables (kind n name) = []
first_tunables (device n name class) = []

-- the rows that a line appends to the table. The line of a device appends one row, which has no parent and the weight 0. Any other line appends no row
abbrev pub first_rows : First → List Row
first_rows (device n name class) = device_row None (record { id = n; name = name; weight = 0; class = class }) ∷ []
first_rows (tunable name n) = []
first_rows (kind n name) = []

-- NAMES: the number of the type that has the name, or 0 if no type has the name
abbrev pub kind_number_in : List KindData → List ℕ → ℕ
kind_number_in kinds name = unwrap_or (kind_number (record { kinds = kinds; tunables = []; rules = [] }) name) 0

-- the id of the item that has the name in the table t; device 0 if no item has the name
abbrev pub item_in : List Row → List ℕ → ItemId
item_in t name = unwrap_or (id_named t name) (Device 0)

-- THE ITEMS OF A BUCKET: the table after the lines of the items of the bucket b. Each item's row is removed, and is appended again with b as its parent. A device gets the weight that its line gives, or 1.0 if the line gives none.
abbrev pub with_items : ℕ → List ItemLine → List Row → List Row
with_items b [] t = t
with_items b (i ∷ items) t = with_items b items (put_below b (item_in t i.name) (weight_or_one i.weight) t)

-- A BUCKET: the table t with the bucket's row appended. The row has no parent, and the bucket has no items yet
abbrev pub with_bucket : List KindData → BucketLines → List Row → List Row
with_bucket kinds b t = t ++ bucket_row None (record { id = b.id; kind = kind_number_in kinds b.kind; name = b.name; alg = b.alg; class_ids = b.class_ids }) ∷ []

-- the table after a statement, if t is the table before it. A bucket is appended and gets its items. A rule doesn't change the table
abbrev pub with_second : List KindData → Second → List Row → List Row
with_second kinds (bucket b) t = with_items b.id b.items (with_bucket kinds b t)
with_second kinds (rule r) t = t

-- the table after several statements, one after the other, if t is the table before them
abbrev pub with_seconds : List KindData → List Second → List Row → List Row
with_seconds kinds [] t = t
with_seconds kinds (x ∷ xs) t = with_seconds kinds xs (with_second kinds x t)

-- ADJUSTMENTS: how many items of the bucket b are buckets whose line gives a weight that is adjusted, which means that it isn't the sum of the weights of the item's own items
abbrev pub adjusted_items : ℕ → List ItemLine → List Row → ℕ
adjusted_items b [] t = 0
adjusted_items b (i ∷ items) t = adjustment t (item_in t i.name) i.weight + adjusted_items b items (put_below b (item_in t i.name) (weight_or_one i.weight) t)

-- the number of such items in one statement, if t is the table before this statement. A rule has no such items
abbrev pub adjusted_in : List KindData → Second → List Row → ℕ
adjusted_in kinds (bucket b) t = adjusted_items b.id b.items (with_bucket kinds b t)
adjusted_in kinds (rule r) t = 0

-- the number of such items in several statements, one after the other, if t is the table before them
abbrev pub adjusted_by : List KindData → List Second → List Row → ℕ
adjusted_by kinds [] t = 0
adjusted_by kinds (x ∷ xs) t = adjusted_in kinds x t + adjusted_by kinds xs (with_second kinds x t)

-- A STEP of a rule as the setting stores it. If the step takes a bucket, the setting has the id of this bucket instead of its name. The name is looked up in the table t
abbrev pub step_in : List Row → StepLine → StepData
step_in t (takes name class) = take (unwrap_or (bucket_named t name) 0) class
step_in t (chooses leaf firstn n type) = choose leaf firstn n type
step_in t (sets name n) = set name n
step_in t emits = emit

-- A RULE as the setting stores it, if t is the table before the rule
abbrev pub rule_in : List Row → RuleLines → RuleData
rule_in t r = record { name = r.name; id = r.id; kind = r.kind; min_size = r.min_size; max_size = r.max_size; steps = map (step_in t) r.steps }

-- the rule of a statement, as a list that is empty if the statement is a bucket
abbrev pub rules_in : List Row → Second → List RuleData
rules_in t (bucket b) = []
rules_in t (rule r) = rule_in t r ∷ []

-- the rules of several statements, in order. The names in each rule are looked up in the table that the statements before this rule have built
abbrev pub rules_by : List KindData → List Second → List Row → List RuleData
rules_by kinds [] t = []
rules_by kinds (x ∷ xs) t = rules_in t x ++ rules_by kinds xs (with_second kinds x t)

-- THE PARTS OF THE MAP that a document describes. `kinds_of` gives the document's types
abbrev pub kinds_of : Document → List KindData
kinds_of doc = flat_map first_kinds doc.first

-- the document's devices, before buckets list them
abbrev pub devices_of : Document → List Row
devices_of doc = flat_map first_rows doc.first

-- the document's setting: its types, tunables and rules
abbrev pub setting_of : Document → SettingData
setting_of doc = record { kinds = kinds_of doc; tunables = flat_map first_tunables doc.first; rules = rules_by (kinds_of doc) doc.second (devices_of doc) }

-- the document's table
abbrev pub table_of : Document → List Row
table_of doc = with_seconds (kinds_of doc) doc.second (devices_of doc)

-- how many weights that the document gives for buckets are adjusted: each of them isn't the sum of the weights of the bucket's items, and the reader replaces it by this sum
abbrev pub adjusted : Document → ℕ
adjusted doc = adjusted_by (kinds_of doc) doc.second (devices_of doc)

-- A NAME IS USED AFTER THE LINE THAT DECLARES IT, and a bucket's name is used after the bucket's closing brace. The bucket b may list a name if three conditions hold: an item of the table has the name (`there`), this item isn't b itself (`closed`), and no bucket lists this item yet (`once`).
pub record IsListable (b : ℕ) (t : List Row) (name : List ℕ) : Type 0 where
  pub there : id_named t name ≡ Some (item_in t name)
  pub closed : same_id (Bucket b) (item_in t name) ≡ false
  pub once : is_placed t (item_in t name) ≡ false

-- the bucket b may list all these items, one after the other
abbrev pub AreListable : ℕ → List ItemLine → List Row → Type 0
AreListable b [] t = Unit {0}
AreListable b (i ∷ items) t = IsListable b t i.name × AreListable b items (put_below b (item_in t i.name) (weight_or_one i.weight) t)

-- if the step takes a bucket, then the table has a bucket with the name that the step gives. For any other step, nothing is required
abbrev pub TakesBucket : List Row → StepLine → Type 0
TakesBucket t (takes name class) = bucket_named t name ≡ Some (unwrap_or (bucket_named t name) 0)
TakesBucket t (chooses leaf firstn n type) = Unit {0}
TakesBucket t (sets name n) = Unit {0}
TakesBucket t emits = Unit {0}

-- the names in a statement can be used, if t is the table before the statement. For a bucket: its type was declared and isn't type 0, and the bucket may list its items. For a rule: each name that its steps take is the name of a bucket.
abbrev pub UsesNames : List KindData → Second → List Row → Type 0
UsesNames kinds (bucket b) t = (0 < kind_number_in kinds b.kind) × AreListable b.id b.items (with_bucket kinds b t)
UsesNames kinds (rule r) t = All (TakesBucket t) r.steps

-- the names in each of several statements can be used, if t is the table before the first of these statements
abbrev pub UseNames : List KindData → List Second → List Row → Type 0
UseNames kinds [] t = Unit {0}
UseNames kinds (x ∷ xs) t = UsesNames kinds x t × UseNames kinds xs (with_second kinds x t)

-- A LAWFUL DOCUMENT: each name is used after the line that declares it, and no item is listed twice (`names`). The document's table is lawful, and the document's setting fits the table. (`Lawful` and `Fits` also say that the limits of a map aren't exceeded.)
pub record LawfulDocument (doc : Document) : Type 0 where
  pub names : UseNames (kinds_of doc) doc.second (devices_of doc)
  pub lawful : Lawful (table_of doc)
  pub fits : Fits (setting_of doc) (table_of doc)

-- the bytes can be split into words up to their end, and the words spell a lawful document with this setting, this table and n adjusted weights
pub record SpellsMap (bytes : List ℕ) (s : SettingData) (t : List Row) (n : ℕ) : Type 0 where
  pub document : Document
  pub spelled : Spells (texts (words 0 bytes).words) document
  pub end : (place : ℕ) × ((words 0 bytes).stop ≡ ended place)
  pub lawful : LawfulDocument document
  pub setting : setting_of document ≡ s
  pub table : table_of document ≡ t
  pub count : adjusted document ≡ n
