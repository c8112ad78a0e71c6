-- How an index hashes. Each hash table of an index keeps the hashing with which it was created.
use Rattle.std.specs.Prelude.{◌≡◌}
use Rattle.indexmap.specs.IndexSet.{hasher_of as set_hasher_of}
use Rattle.crush_index.specs.DenseMapAnswers.{numbered_hashing}
use Rattle.crush_index.specs.SlotsAnswers.{SlotsHashings, slots_hashings}
use Rattle.crush_index.specs.declared.hashing.Hashing.{Hashing}
use Rattle.crush_index.specs.declared.index.Index.{Index}
use Rattle.crush_index.specs.declared.names.Names.{Names}
use Rattle.crush_index.specs.declared.places.Places.{Places}
use Rattle.crush_index.specs.declared.used.UsedIds.{UsedIds}

-- the hashing of the names
abbrev pub names_hashing : Names → Hashing
names_hashing names = names.hashing

-- the hashing of the used ids
abbrev pub used_hashing : UsedIds → Hashing
used_hashing used = set_hasher_of used.sparse

-- the hashings of the places: one for the map of devices, and two for the two maps of buckets and slots
pub record PlacesHashings : Type 0 where
  pub devices : Hashing
  pub buckets : SlotsHashings

-- the hashings of these places
abbrev pub places_hashings : Places → PlacesHashings
places_hashings places = record { devices = numbered_hashing places.devices; buckets = slots_hashings places.slots }

-- the hashings of all hash tables of an index
pub record Hashings : Type 0 where
  pub names : Hashing
  pub places : PlacesHashings
  pub used : Hashing

-- the hashings of this index
abbrev pub hashings : Index → Hashings
hashings index = record { names = names_hashing index.names; places = places_hashings index.places; used = used_hashing index.used }

-- each hash table of the places has the hashing h
abbrev pub ArePlacesHashed : Hashing → Places → Type 0
ArePlacesHashed h places = places_hashings places ≡ record { devices = h; buckets = record { numbers = h; slots = h } }

-- HASHED: each hash table of the index has the hashing h
abbrev pub IsHashed : Hashing → Index → Type 0
IsHashed h index = hashings index ≡ record { names = h; places = record { devices = h; buckets = record { numbers = h; slots = h } }; used = h }
