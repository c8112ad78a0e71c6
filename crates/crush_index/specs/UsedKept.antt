-- How used ids are stored, except for those in the chain. An id is given as its distance below 0.
use Rattle.std.specs.Prelude.{ℕ, ◌/◌, ◌%◌, ◌==◌, List, Bool, if◌then◌else◌, nat_eq, nat_lt, slice_index}
use Rattle.std.specs.Int.{bit_at}
use Rattle.indexmap.specs.IndexSet.{IndexSet, contains}
use Rattle.crush_index.specs.declared.hashing.Hashing.{Hashing}

-- an id below this number is stored as a bit
abbrev pub near_ids : ℕ
near_ids = 69696

-- whether an id is stored. An id below `near_ids` is stored as a bit; the bits after the last word count as clear. Any other id is stored in the hash set
abbrev pub bit_answer : List ℕ → IndexSet ℕ Hashing → ℕ → Bool
bit_answer words sparse k = if nat_lt k near_ids then bit_at (slice_index words (k / 64)) (k % 64) == 1 else contains nat_eq sparse k
