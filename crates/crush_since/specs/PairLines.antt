-- The line of a pair, and the numbers of pairs that have each kind of difference.
use Rattle.std.specs.Prelude.{ℕ, Bool, List, [], Option, None, Some}
use Rattle.std.specs.Cmp.Lexicographic.{pointwise}
use Rattle.std.specs.List.{count_by}
use Rattle.std.specs.Option.{option_map, option_map_or}
use Rattle.crush_units.specs.declared.id.ItemId.{ItemId}
use Rattle.crush_edits.specs.Setting.{SettingData}
use Rattle.crush_items.specs.Entries.{EntryData}
use Rattle.crush_items.specs.ItemData.{ItemData}
use Rattle.crush_compare.specs.IdPairs.{EntryPair, class_ids_of}
use Rattle.crush_compare.specs.SameItem.{same_class_id}
use Rattle.crush_since.specs.ItemParts.{item_line}
use Rattle.crush_since.specs.Tallies.{is_made, is_removed, is_renamed, is_moved, is_reweighed, is_reclassed}
use Rattle.crush_since.specs.declared.since.tally.Tally.{Tally}

-- what an entry says about its item, without the class ids; none if there is no entry
abbrev pub entry_item : Option EntryData → Option ItemData
entry_item o = option_map (λ e. e.item) o

-- the id of a pair's item: the id of the new map's item or, if the new map doesn't have the item, the id of the old map's item; none if neither map has the item
abbrev pub told_id : Option ItemData → Option ItemData → Option ItemId
told_id before (Some b) = Some b.view.id
told_id None None = None
told_id (Some a) None = Some a.view.id

-- the line about an item, given what two maps say about it; nothing if neither map has it
abbrev pub seen_line : SettingData → SettingData → Option ItemData → Option ItemData → Bool → List ℕ
seen_line s p before after same = option_map_or (λ i. item_line s p i before after same) (told_id before after) []

-- LINE OF A PAIR, given what the two maps say about the pair's item
unfoldable pub pair_line : SettingData → SettingData → EntryPair → List ℕ
pair_line s p e = seen_line s p (entry_item e.before) (entry_item e.after) (pointwise same_class_id (class_ids_of e.before) (class_ids_of e.after))

-- COUNTS of pairs. The function f gives what the two maps say about a pair's item
abbrev pub meets : (Option ItemData → Option ItemData → Bool) → EntryPair → Bool
meets test e = test (entry_item e.before) (entry_item e.after)

abbrev pub pairs_tally : {X : Type 0} → (X → EntryPair) → List X → Tally
pairs_tally f ps = record {
  made = count_by (λ p. meets is_made (f p)) ps;
  removed = count_by (λ p. meets is_removed (f p)) ps;
  renamed = count_by (λ p. meets is_renamed (f p)) ps;
  moved = count_by (λ p. meets is_moved (f p)) ps;
  reweighed = count_by (λ p. meets is_reweighed (f p)) ps;
  reclassed = count_by (λ p. meets is_reclassed (f p)) ps;
}
