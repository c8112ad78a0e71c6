-- What two tables say about an id, and what the entries at the two positions of a pair say.
use Rattle.std.specs.Prelude.{◌≡◌, List, [], Option, option_and_then, map, filter_map}
use Rattle.std.specs.Cmp.Lexicographic.{pointwise}
use Rattle.std.specs.Option.{option_map, option_map_or}
use Rattle.std.specs.List.{slice_get}
use Rattle.crush_units.specs.declared.id.ItemId.{ItemId}
use Rattle.crush_edits.specs.Setting.{SettingData}
use Rattle.crush_model.specs.Items.{ShadowData}
use Rattle.crush_model.specs.Lawful.{Lawful}
use Rattle.crush_model.specs.Table.{Row}
use Rattle.crush_compare.specs.AllIds.{all_ids}
use Rattle.crush_items.specs.ById.{AreById, id_key}
use Rattle.crush_items.specs.Entries.{EntryData, entry_of}
use Rattle.crush_items.specs.Items.{HasEntries}
use Rattle.crush_compare.specs.Difference.{difference_by, id_difference}
use Rattle.crush_compare.specs.SameItem.{same_class_id}
use Rattle.crush_compare.specs.declared.difference.Difference.{Difference}
use Rattle.crush_compare.specs.declared.difference.Report.{Report}
use Rattle.crush_compare.specs.NamedColumns.{columns_of}
use Rattle.crush_compare.specs.declared.identity.Identity.{Identity}
use Rattle.crush_compare.specs.declared.identity.Identity.TheVariants.{Ids}
use Rattle.crush_compare.specs.Pairs.{AreKeyPairsOf, ArePairsOf, Rise, keys, pair_key}
use Rattle.crush_compare.specs.declared.by_id.KeyPair.{KeyPair}
use Rattle.crush_compare.specs.declared.by_id.Pair.{Pair}
use Rattle.crush_items.specs.declared.by_id.Place.{Place}

-- what two maps say about the item of a pair
pub record EntryPair : Type 0 where
  pub before : Option EntryData
  pub after : Option EntryData

-- the entries of the lists es and fs that are at the positions of a pair
abbrev pub entries_at : List EntryData → List EntryData → Pair → EntryPair
entries_at es fs p = record { before = option_and_then (slice_get es) p.before; after = option_and_then (slice_get fs) p.after }

-- what two tables say about an id
abbrev pub id_entries : List Row → List Row → ItemId → EntryPair
id_entries t u i = record { before = entry_of t i; after = entry_of u i }

-- t and u are lawful tables, and `old` and `new` are the places of the tables' entries es and fs, sorted by the keys of the ids
pub record AreBothById (t u : List Row) (es fs : List EntryData) (old new : List Place) : Type 0 where
  pub old_lawful : Lawful t
  pub new_lawful : Lawful u
  pub before : AreById t es old
  pub after : AreById u fs new

-- THE KEYS: if two lawful tables are matched by ids, the keys of the pairs are the keys of all ids that at least one table has, in the order of the ids
abbrev pub KeysOfAllIds : Type 0
KeysOfAllIds = (t u : List Row) (es fs : List EntryData) (old new : List Place) (ps : List KeyPair) → AreBothById t u es fs old new → AreKeyPairsOf old new ps → map pair_key ps ≡ map id_key (all_ids t u)

-- EACH ID ONCE: if two lawful tables are matched by ids, there is one pair for each id that at least one table has, in the order of the ids. The pair has what each table says about the id
abbrev pub EachIdOnce : Type 0
EachIdOnce = (t u : List Row) (es fs : List EntryData) (old new : List Place) (ps : List Pair) → AreBothById t u es fs old new → (Rise (keys old) → Rise (keys new) → ArePairsOf old new ps)
    → map (entries_at es fs) ps ≡ map (id_entries t u) (all_ids t u)

-- each item of two tables is in exactly one pair. The entries in the fields `before` are those of the old table, and the entries in the fields `after` are those of the new table
pub record HasEachItemOnce (t u : List Row) (ps : List EntryPair) : Type 0 where
  pub before : HasEntries t (filter_map (λ (p : EntryPair). p.before) ps)
  pub after : HasEntries u (filter_map (λ (p : EntryPair). p.after) ps)

-- EACH ITEM ONCE: if two lawful tables are matched by ids, each item of either table is in exactly one pair
abbrev pub EachItemOnceByIds : Type 0
EachItemOnceByIds = (t u : List Row) (es fs : List EntryData) (old new : List Place) (ps : List Pair) → AreBothById t u es fs old new → (Rise (keys old) → Rise (keys new) → ArePairsOf old new ps)
    → HasEachItemOnce t u (map (entries_at es fs) ps)

-- the class ids of an entry; no class ids if there is no entry
abbrev pub class_ids_of : Option EntryData → List ShadowData
class_ids_of o = option_map_or (λ e. e.class_ids) o []

-- the difference between the items of a pair. The arguments are how the items are matched, which differences count, the settings s and p of the two maps, and what the maps say about the pair's item
abbrev pub pair_difference : Identity → Report → SettingData → SettingData → EntryPair → Option Difference
pair_difference identity report s p e =
    difference_by (columns_of identity report s p (pointwise same_class_id (class_ids_of e.before) (class_ids_of e.after))) (option_map (λ x. x.item) e.before) (option_map (λ x. x.item) e.after)

-- the law: if items are matched by ids, the difference that `pair_difference` finds for the pair of an id is the difference between what the two tables say about this id
abbrev pub DifferencesOfIds : Type 0
DifferencesOfIds = (report : Report) (s p : SettingData) (t u : List Row) (i : ItemId) → pair_difference Ids report s p (id_entries t u i) ≡ id_difference report t u i
