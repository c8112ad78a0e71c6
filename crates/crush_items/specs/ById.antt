-- The items of a map in the order of their ids.
use Rattle.std.specs.Prelude.{◌≡◌, ℕ, ◌+◌, ◌<◌, ◌^◌, List, [], ◌∷◌, Option, Some, All, filter_map}
use Rattle.std.specs.List.{slice_get}
use Rattle.std.specs.List.Sorted.{IsNonDecreasingBy}
use Rattle.std.specs.Option.{option_map}
use Rattle.crush_units.specs.declared.id.ItemId.{ItemId}
use Rattle.crush_units.specs.declared.id.ItemId.TheVariants.{Device, Bucket}
use Rattle.crush_model.specs.Table.{Row}
use Rattle.crush_items.specs.Entries.{EntryData}
use Rattle.crush_items.specs.Items.{HasEntries, entry_id}
use Rattle.crush_items.specs.declared.by_id.Place.{Place}

-- the key of an id: ascending keys are in the order in which ids are printed, buckets from -1 downward and then devices upward
abbrev pub id_key : ItemId → ℕ
id_key (Bucket b) = b
id_key (Device d) = 2 ^ 32 + d

-- an id is short: the number of a bucket (its distance from 0) is below 2^32, so that the bucket's key is less than the key of any device. Each id of a lawful table is short
abbrev pub IsShort : ItemId → Type 0
IsShort (Bucket b) = b < 2 ^ 32
IsShort (Device d) = Unit {0}

-- the entry at a place
abbrev pub entry_at : List EntryData → Place → Option EntryData
entry_at es p = slice_get es p.at

-- the list has an entry at the place's position, and the place's key is the key of this entry's id
abbrev pub IsPlaceIn : List EntryData → Place → Type 0
IsPlaceIn es p = option_map (λ e. id_key (entry_id e)) (entry_at es p) ≡ Some p.key

-- BY ID: the places of the entries of a table, sorted by ascending keys. There is one place for each entry
pub record AreById (t : List Row) (es : List EntryData) (ps : List Place) : Type 0 where
  pub placed : All (IsPlaceIn es) ps
  pub lists : HasEntries t (filter_map (entry_at es) ps)
  pub rising : IsNonDecreasingBy (λ (p : Place). p.key) ps

-- the places of entries in the entries' own order; the first place has the position `at`
abbrev pub places_from : ℕ → List EntryData → List Place
places_from at [] = []
places_from at (e ∷ es) = record { key = id_key (entry_id e); at = at } ∷ places_from (at + 1) es
