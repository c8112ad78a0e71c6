-- How contracts describe a book, which is a map with its history, and what is true of every book.
use Rattle.std.specs.Prelude.{ℕ, ◌≡◌, ◌<◌, ◌≤◌, Option, Some, None, IfSome, List, [], length}
use Rattle.std.specs.List.{All}
use Rattle.crush_units.specs.declared.limits.TheConstants.{MOST_ENTRIES, MOST_OPERATORS}
use Rattle.atomic_table.specs.Seated.{TableId}
use Rattle.crush_model.specs.Items.{none}
use Rattle.crush_model.specs.Table.{Row}
use Rattle.crush_edits.specs.Setting.{SettingData}
use Rattle.crush_map.specs.MapData.{MapData, MapStands}
use Rattle.crush_history.specs.History.{EntryData, changes, table_after, IsLegal}
use Rattle.crush_tree.specs.Sameness.{IsSameForest}
use Rattle.crush_gauge.specs.declared.view.View.{View}
use Rattle.crush_gauge.specs.declared.view.View.TheVariants.{Fresh, Spent, Book, Reader}
use Rattle.crush_gauge.specs.Rule.{known}
use Rattle.crush_editor.specs.History.{IsLegalFrom, table_from}

-- a book, which is a map with its history, as contracts see it: the identity of its gauge's `Table`, its opening map, the map as it is now, and its history. The gauge is the word of memory from which threads read the number of changes and the map's total weight. This word is in a `Table` of the crate `atomic_table`
pub record BookData : Type 0 where
  pub table : TableId
  pub opening : MapData
  pub map : MapData
  pub history : List EntryData

-- the book (a map with its history) with the opening map o, the map m and the history h. The `Table` (of the crate `atomic_table`) with the word of the book's gauge has the identity z. Threads read the number of changes and the map's total weight from this word
abbrev pub book_data : TableId → MapData → MapData → List EntryData → BookData
book_data z o m h = record { table = z; opening = o; map = m; history = h }

-- an empty map. It is the opening map of an editor's name (`Desk`) if no proof has chosen another map for this name
abbrev pub no_map : MapData
no_map = record {
  setting = record { kinds = []; tunables = []; rules = [] };
  forest = record { roots = none; unplaced = none; root_capacity = 0; unplaced_capacity = 0 };
}

-- the opening map that a seat of a gauge has seen if it has this view; the empty map if the view is fresh or spent. A seat of a gauge is the value with which one thread uses the gauge's word
abbrev pub opening_of : View MapData EntryData → MapData
opening_of Fresh = no_map
opening_of Spent = no_map
opening_of (Book k) = k.opening
opening_of (Reader k) = k.opening

-- the map m represents the table after the history h from the opening map o, with the setting of o. The table is the flat list of the map's devices and buckets
abbrev pub StandsAfter : MapData → MapData → List EntryData → Type 0
StandsAfter o m h = MapStands m o.setting (table_from o h)

-- MAKES ALL: for every setting s and every table t that the old map represents, the history h is legal if it starts from s and t, and the new map represents s and the table after h. The table is the flat list of a map's devices and buckets
abbrev pub MakesAll : MapData → MapData → List EntryData → Type 0
MakesAll old new h = (s : SettingData) (t : List Row) → MapStands old s t → IsLegal s t h × MapStands new s (table_after s t h)

-- SAME: two maps have equal settings, and equal items in the same order; their capacities may differ
pub record IsSameMap (new old : MapData) : Type 0 where
  pub setting : new.setting ≡ old.setting
  pub forest : IsSameForest new.forest old.forest

-- the new map represents every setting and every table that the old map represents. The table is the flat list of a map's devices and buckets
abbrev pub StandsAsBefore : MapData → MapData → Type 0
StandsAsBefore old new = (s : SettingData) (t : List Row) → MapStands old s t → MapStands new s t

-- COPIED: the map k, which the book keeps, is the opening map o, and the map m is a copy of o. A book is a map with its history
pub record IsCopied (k m o : MapData) : Type 0 where
  pub kept : k ≡ o
  pub same : IsSameMap m o
  pub stands : StandsAsBefore o m

-- PARTED: in a book (a map with its history) whose history is empty and whose opening map is o, m is the map that calls will change. If the book keeps its opening map, then m is a copy of o. Otherwise m is o itself
abbrev pub IsParted : Option MapData → MapData → MapData → Type 0
IsParted (Some k) m o = IsCopied k m o
IsParted None m o = m ≡ o

-- what is true of every book (a map with its history) with the opening map o, the map m and the history h. If the book keeps a map, then this map is the opening map. If the history is empty, then m is a copy of o, or o itself (`IsParted`). The history is legal from o, and m represents the table after the history. (The table is the flat list of the map's devices and buckets.) The same is true for every table that o represents (`MakesAll`). The number of each entry's operator is below 16, and there are at most 65,536 entries. `count` is the number of changes. `view` is the view of the book's seat, which is the only seat with which the gauge's word is changed: this seat has seen the opening map and the whole history
pub record IsKept (kept : Option MapData) (o m : MapData) (h : List EntryData) (count : ℕ) (view : View MapData EntryData) : Type 0 where
  pub opening : IfSome kept (λ (k : MapData). k ≡ o)
  pub parted : h ≡ [] → IsParted kept m o
  pub legal : IsLegalFrom o h
  pub stands : StandsAfter o m h
  pub all : MakesAll o m h
  pub operators : All (λ (e : EntryData). e.operator < MOST_OPERATORS) h
  pub room : length h ≤ MOST_ENTRIES
  pub counted : count ≡ changes h
  pub snapshot : view ≡ Book (known o h)
