-- Which slot each bucket has, which bucket has a given slot, which entry a bucket has, and how calls change all this. A slot is a number that each bucket has in addition to its id.
use Rattle.std.specs.Prelude.{◌≡◌, ◌==◌, ℕ, Option, None, if◌then◌else◌}
use Rattle.crush_model.specs.Columns.{exchange_id}
use Rattle.crush_index.specs.DenseMapAnswers.{numbered_hashing}
use Rattle.crush_index.specs.SlotsKept.{slot_in, bucket_in, entry_in}
use Rattle.crush_index.specs.declared.hashing.Hashing.{Hashing}
use Rattle.crush_index.specs.declared.slot.Entry.{Entry}
use Rattle.crush_index.specs.declared.slots.Slots.{Slots}

-- the slot of a bucket
abbrev pub slot_answer : Slots → ℕ → ℕ
slot_answer slots b = slot_in slots.numbers b

-- the bucket that has a slot
abbrev pub bucket_at : Slots → ℕ → ℕ
bucket_at slots s = bucket_in slots.slots s

-- the entry of the bucket that has a slot, or None if the bucket has no entry
abbrev pub entry_in_slot : Slots → ℕ → Option Entry
entry_in_slot slots s = entry_in slots.slots s

-- the entry of a bucket, or None if the bucket has no entry
abbrev pub entry_answer : Slots → ℕ → Option Entry
entry_answer slots b = entry_in_slot slots (slot_answer slots b)

-- the hashings of the two maps, which hash only bucket ids and slots that are far from 0
pub record SlotsHashings : Type 0 where
  pub numbers : Hashing
  pub slots : Hashing

-- the hashings of these slots
abbrev pub slots_hashings : Slots → SlotsHashings
slots_hashings slots = record { numbers = numbered_hashing slots.numbers; slots = numbered_hashing slots.slots }

-- each slot has the same bucket as before, and each bucket has the same entry as before
pub record KeepsAll (old new : Slots) : Type 0 where
  pub bucket : (s : ℕ) → bucket_at new s ≡ bucket_at old s
  pub answers : (c : ℕ) → entry_answer new c ≡ entry_answer old c

-- the bucket b has the given entry, or no entry if None is given; each slot has the same bucket as before, and each other bucket has the same entry as before
pub record Keeps (b : ℕ) (entry : Option Entry) (old new : Slots) : Type 0 where
  pub bucket : (s : ℕ) → bucket_at new s ≡ bucket_at old s
  pub answers : (c : ℕ) → entry_answer new c ≡ (if b == c then entry else entry_answer old c)

-- two buckets have exchanged their slots, and each bucket has the same entry as before
pub record Exchanges (a b : ℕ) (old new : Slots) : Type 0 where
  pub bucket : (s : ℕ) → bucket_at new s ≡ exchange_id a b (bucket_at old s)
  pub answers : (c : ℕ) → entry_answer new c ≡ entry_answer old c

-- no bucket has an entry, and both maps have the hashing h
pub record IsBare (h : Hashing) (slots : Slots) : Type 0 where
  pub none : (b : ℕ) → entry_answer slots b ≡ None
  pub hashing : slots_hashings slots ≡ record { numbers = h; slots = h }

-- the copy has the same bucket for each slot, the same entry for each bucket, and the same hashings
pub record IsCopyOf (slots copy : Slots) : Type 0 where
  pub keeps : KeepsAll slots copy
  pub hashing : slots_hashings copy ≡ slots_hashings slots
