-- The words with which an item's line shows an item, its place, its type and its other columns.
use Rattle.std.specs.Prelude.{ℕ, List, [], ◌++◌, Option, None, Some, codes, unwrap_or}
use Rattle.crush_units.specs.declared.alg.Alg.{Alg}
use Rattle.crush_units.specs.declared.id.ItemId.{ItemId}
use Rattle.crush_units.specs.declared.id.ItemId.TheVariants.{Device, Bucket}
use Rattle.crush_units.specs.Alg.{alg_text}
use Rattle.crush_units.specs.Weight.{weight_text}
use Rattle.crush_edits.specs.Setting.{SettingData, kind_name}
use Rattle.crush_print.specs.Lines.{id_text}
use Rattle.crush_items.specs.ItemData.{ItemData}

-- an item as `NAME (ID)`
abbrev pub item_word : List ℕ → ItemId → List ℕ
item_word name i = name ++ codes " (" ++ id_text i ++ codes ")"

-- the place of an item: its parent, or a word for an item that has no parent
abbrev pub place_in : ItemId → Option (List ℕ) → Option ℕ → List ℕ
place_in i holder (Some p) = item_word (unwrap_or holder []) (Bucket p)
place_in (Device d) holder None = codes "(unplaced)"
place_in (Bucket b) holder None = codes "(root)"

abbrev pub place_word : ItemData → List ℕ
place_word x = place_in x.view.id x.holder x.view.parent

-- the name of an item's type. If the setting declares no type with this number, it is `osd` for a device, and the empty text for a bucket
abbrev pub default_kind : ItemId → List ℕ
default_kind (Device d) = codes "osd"
default_kind (Bucket b) = []

abbrev pub type_word : SettingData → ItemId → ℕ → List ℕ
type_word s i kind = unwrap_or (kind_name s kind) (default_kind i)

-- the name of a class, or the word `(none)` if there is no class
abbrev pub class_or_none : Option (List ℕ) → List ℕ
class_or_none c = unwrap_or c (codes "(none)")

abbrev pub alg_word : Option Alg → List ℕ
alg_word None = []
alg_word (Some a) = alg_text a

-- `, class C` if there is a class, otherwise nothing
abbrev pub with_class : Option (List ℕ) → List ℕ
with_class None = []
with_class (Some c) = codes ", class " ++ c

-- the words for an item that only one of the maps has: its type, place, weight and class
abbrev pub whole_word : SettingData → ItemData → List ℕ
whole_word s x = type_word s x.view.id x.view.kind ++ codes " in " ++ place_word x ++ codes ", weight " ++ weight_text x.view.weight ++ with_class x.view.class
