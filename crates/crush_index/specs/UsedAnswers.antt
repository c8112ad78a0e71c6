-- Which ids are used according to an index, and when these answers are right for a table of rows. An id is given as its distance below 0.
use Rattle.std.specs.Prelude.{◌≡◌, ℕ, ◌<◌, ◌≤◌, ◌==◌, ◌||◌, List, Bool, true, false, if◌then◌else◌, nat_eq, is_some}
use Rattle.crush_model.specs.Table.{Row, member, used_ids}
use Rattle.crush_units.specs.declared.limits.TheConstants.{FARTHEST_BUCKET_ID}
use Rattle.crush_index.specs.Chains.{chain_answer}
use Rattle.crush_index.specs.UsedKept.{bit_answer}
use Rattle.crush_index.specs.declared.used.UsedIds.{UsedIds}

-- whether an id is used: its bit is set, or it is in the hash set, or it is in the chain
abbrev pub used_answer : UsedIds → ℕ → Bool
used_answer used k = bit_answer used.words.items used.sparse k || is_some (chain_answer (nat_eq k) used.overflow)

-- USED IDS OF A TABLE: an id is used if and only if it is the id of a bucket of the table, or a class id of a bucket of the table
abbrev pub AreUsedIn : List Row → UsedIds → Type 0
AreUsedIn t used = (k : ℕ) → used_answer used k ≡ member k (used_ids t)

-- the same ids are used as before
abbrev pub UsesSame : UsedIds → UsedIds → Type 0
UsesSame old new = (k : ℕ) → used_answer new k ≡ used_answer old k

-- one id is used if and only if b is true; each other id is used if and only if it was used before
abbrev pub UsesOne : UsedIds → UsedIds → ℕ → Bool → Type 0
UsesOne old new id b = (k : ℕ) → used_answer new k ≡ (if id == k then b else used_answer old k)

-- these ids are used, and each other id is used if and only if it was used before
abbrev pub ComeIntoUse : List ℕ → UsedIds → UsedIds → Type 0
ComeIntoUse ids old new = (k : ℕ) → used_answer new k ≡ (used_answer old k || member k ids)

-- these ids are free, and each other id is used if and only if it was used before
abbrev pub AreFree : List ℕ → UsedIds → UsedIds → Type 0
AreFree ids old new = (k : ℕ) → used_answer new k ≡ (if member k ids then false else used_answer old k)

-- each id that isn't one of these ids is used if and only if it was used before; nothing is said about these ids
abbrev pub UsesSameBut : List ℕ → UsedIds → UsedIds → Type 0
UsesSameBut ids old new =
    (k : ℕ) → (if member k ids then false else used_answer new k) ≡ (if member k ids then false else used_answer old k)

-- all ids are used from `least` to the highest id that a bucket can have
abbrev pub AreAllUsed : UsedIds → ℕ → Type 0
AreAllUsed used least = (k : ℕ) → least ≤ k → k ≤ FARTHEST_BUCKET_ID → used_answer used k ≡ true

-- id is the first free id from `least` on: it is at least `least`, it is free, and all ids from `least` to the id before it are used
pub record IsFirstFree (used : UsedIds) (least id : ℕ) : Type 0 where
  pub after : least ≤ id
  pub free : used_answer used id ≡ false
  pub nearest : (k : ℕ) → least ≤ k → k < id → used_answer used k ≡ true
