-- How slots and the buckets that have them are stored.
use Rattle.std.specs.Prelude.{◌≡◌, ℕ, Option, IsSome, option_and_then, unwrap_or}
use Rattle.std.specs.Option.{option_map}
use Rattle.crush_index.specs.DenseMapAnswers.{answer_at}
use Rattle.crush_index.specs.declared.dense_map.DenseMap.{DenseMap}
use Rattle.crush_index.specs.declared.slot.Entry.{Entry}
use Rattle.crush_index.specs.declared.slot.Slot.{Slot}

-- the slot of a bucket; if no slot is stored for the bucket, its slot is its own id
abbrev pub slot_in : DenseMap ℕ → ℕ → ℕ
slot_in numbers b = unwrap_or (answer_at numbers b) b

-- the bucket that has a slot; if no bucket is stored for the slot, it is the bucket whose id equals the slot
abbrev pub bucket_in : DenseMap Slot → ℕ → ℕ
bucket_in slots s = unwrap_or (option_map (λ (k : Slot). k.bucket) (answer_at slots s)) s

-- the entry of the bucket that has a slot, or None if there is no entry
abbrev pub entry_in : DenseMap Slot → ℕ → Option Entry
entry_in slots s = option_and_then (λ (k : Slot). k.entry) (answer_at slots s)

-- INVERSE: the map `numbers` gives the slot of each bucket, and the map `slots` gives the bucket of each slot. The two maps are inverse to each other: if a bucket has a slot, then this slot has this bucket, and the other way round. If the map `slots` has an entry for the slot of a bucket, then the map `numbers` has an entry for this bucket
pub record AreInverse (numbers : DenseMap ℕ) (slots : DenseMap Slot) : Type 0 where
  pub bucket : (b : ℕ) → bucket_in slots (slot_in numbers b) ≡ b
  pub slot : (s : ℕ) → slot_in numbers (bucket_in slots s) ≡ s
  pub known : (b : ℕ) → IsSome (answer_at slots (slot_in numbers b)) → IsSome (answer_at numbers b)
