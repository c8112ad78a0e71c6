-- Which value a DenseMap has for a number. Most of its numbers are near to 0.
use Rattle.std.specs.Prelude.{◌≡◌, ℕ, List, Option, None, if◌then◌else◌, nat_eq, get_or}
use Rattle.std.specs.Option.{option_or}
use Rattle.indexmap.specs.IndexMap.{IndexMap, get, hasher_of}
use Rattle.crush_index.specs.Chains.{chain_answer}
use Rattle.crush_index.specs.declared.chain.Chain.{Chain}
use Rattle.crush_index.specs.declared.hashing.Hashing.{Hashing}
use Rattle.crush_index.specs.declared.dense_map.DenseMap.{DenseMap}

-- the entry of a number in the vector, or None if the vector has no entry with this index
abbrev pub entry_at : {T : Type 0} → List (Option T) → ℕ → Option T
entry_at entries n = get_or entries n None

-- the value that a number has in the hash map, or, if the hash map doesn't have the number, its value in the chain
abbrev pub sparse_at : {T S : Type 0} → IndexMap ℕ T S → Chain ℕ T → ℕ → Option T
sparse_at sparse overflow n = option_or (get nat_eq sparse n) (chain_answer (nat_eq n) overflow)

-- the value of a number: its entry in the vector. If this entry is None, it is the value that the number has in the hash map, and if the hash map doesn't have the number, its value in the chain
unfoldable pub answer_at : {T : Type 0} → DenseMap T → ℕ → Option T
answer_at dense_map n = option_or (entry_at dense_map.dense.items n) (sparse_at dense_map.sparse dense_map.overflow n)

-- each number has the same value as before
abbrev pub DenseMapSame : {T : Type 0} → DenseMap T → DenseMap T → Type 0
DenseMapSame old new = (n : ℕ) → answer_at new n ≡ answer_at old n

-- one number has the value that the option o gives, or no value if o is None; each other number has the same value as before
abbrev pub DenseMapWith : {T : Type 0} → DenseMap T → DenseMap T → ℕ → Option T → Type 0
DenseMapWith old new number o = (n : ℕ) → answer_at new n ≡ (if nat_eq number n then o else answer_at old n)

-- how the hash map hashes its numbers
abbrev pub numbered_hashing : {T : Type 0} → DenseMap T → Hashing
numbered_hashing dense_map = hasher_of dense_map.sparse
