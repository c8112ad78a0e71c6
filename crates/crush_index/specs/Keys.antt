-- A name as a key of a hash map. The key has the name and its digest, and the hash map hashes only the digest.
use Rattle.std.specs.Prelude.{◌≡◌, ℕ, List, [], ◌∷◌, Bool, true, ◌&&◌, ◌==◌, nat_eq, bytes_eq, fold, length, slice_index, if◌then◌else◌}
use Rattle.std.specs.Cmp.{IsEquivalence}
use Rattle.std.specs.Cmp.Rules.{comparing}
use Rattle.std.specs.Hash.DefaultHasher as sip
use Rattle.std.specs.Int.{w64, from_le_bytes}
use Rattle.std.proofs.Common.{rules}
use Rattle.crush_index.specs.Hashed.{first_state, at_once}
use Rattle.crush_index.specs.declared.digests.IdentityHasher.{IdentityHasher}
use Rattle.crush_index.specs.declared.hashing.Hashing.{Hashing}
use Rattle.crush_index.specs.declared.key.LookupKey.{LookupKey}

-- the digest of a name: the SipHash of its bytes
unfoldable pub digest : Hashing → List ℕ → ℕ
digest h name = sip.finish (fold sip.write (first_state h.keys) (at_once name))

-- the key of a name: its digest and its bytes
abbrev pub key_of : Hashing → List ℕ → ℕ × List ℕ
key_of h name = (digest h name, name)

-- the key of a look-up: the digest of a name and the borrowed bytes of the name
abbrev pub lookup_key : LookupKey → ℕ × List ℕ
lookup_key lookup = (lookup.digest, lookup.bytes.now)

-- whether two keys have the same digest and the same bytes
abbrev pub same_key : ℕ × List ℕ → ℕ × List ℕ → Bool
same_key x y = nat_eq x.0 y.0 && bytes_eq x.1 y.1

-- the test same_key is an equivalence relation
pub same_key_equiv : IsEquivalence same_key
same_key_equiv = Prim.search (comparing, rules)

-- keys that are the same have the same digest
pub same_digests : (x y : ℕ × List ℕ) → same_key x y ≡ true → x.0 ≡ y.0
same_digests x y e = Prim.search (comparing, rules)

-- a hasher of digests before anything is written to it
abbrev pub nothing_passed : IdentityHasher
nothing_passed = record { digest = 0 }

-- the first eight bytes of a list; a byte that the list doesn't have counts as 0
abbrev pub eight : List ℕ → List ℕ
eight bs =
    slice_index bs 0 ∷ slice_index bs 1 ∷ slice_index bs 2 ∷ slice_index bs 3 ∷ slice_index bs 4 ∷ slice_index bs 5 ∷ slice_index bs 6 ∷ slice_index bs 7 ∷ []

-- the hasher after a write: eight bytes are its digest, the lowest byte first; any other number of bytes changes nothing
abbrev pub passed : IdentityHasher → List ℕ → IdentityHasher
passed state bs = if length bs == 8 then record { digest = from_le_bytes w64 (eight bs) } else state
