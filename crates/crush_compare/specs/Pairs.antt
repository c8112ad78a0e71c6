-- The pairs of two lists of places in which the keys ascend.
use Rattle.std.specs.Prelude.{◌≡◌, ℕ, ◌+◌, ◌≤◌, ◌==◌, if◌then◌else◌, nat_lt, Bool, true, false, List, [], ◌∷◌, Option, None, Some, All, map, filter_map}
use Rattle.std.specs.Option.{option_map}
use Rattle.crush_compare.specs.declared.by_id.KeyPair.{KeyPair}
use Rattle.crush_compare.specs.declared.by_id.Pair.{Pair}
use Rattle.crush_items.specs.declared.by_id.Place.{Place}

-- KEYS THAT RISE: each key is greater than the one before it, and the first is at least `low`
abbrev pub RiseFrom : ℕ → List ℕ → Type 0
RiseFrom low [] = Unit {0}
RiseFrom low (k ∷ ks) = (low ≤ k) × RiseFrom (k + 1) ks

abbrev pub Rise : List ℕ → Type 0
Rise ks = RiseFrom 0 ks

abbrev pub keys : List Place → List ℕ
keys xs = map (λ (x : Place). x.key) xs

-- the two arguments can be the places of one item in two lists: at least one of them is a place, and if both are places, their keys are equal
abbrev pub AreOne : Option Place → Option Place → Type 0
AreOne (Some x) (Some y) = x.key ≡ y.key
AreOne (Some x) None = Unit {0}
AreOne None (Some y) = Unit {0}
AreOne None None = ⊥

abbrev pub IsOne : KeyPair → Type 0
IsOne p = AreOne p.before p.after

-- the key of a pair: the key of its first place, or of its second place if it has no first place
abbrev pub either_key : Option Place → Option Place → ℕ
either_key (Some x) after = x.key
either_key None (Some y) = y.key
either_key None None = 0

abbrev pub pair_key : KeyPair → ℕ
pair_key p = either_key p.before p.after

-- PAIRS WITH KEYS: each place of the old list is the `before` of exactly one pair, and each place of the new list is the `after` of exactly one pair, both in the order of their lists.
-- The two places of a pair have the same key, and the keys of the pairs rise, so that no two pairs have the same key
pub record AreKeyPairsOf (old new : List Place) (ps : List KeyPair) : Type 0 where
  pub before : filter_map (λ (p : KeyPair). p.before) ps ≡ old
  pub after : filter_map (λ (p : KeyPair). p.after) ps ≡ new
  pub one : All IsOne ps
  pub rising : Rise (map pair_key ps)

-- the positions of a pair's items
abbrev pub position : Option Place → Option ℕ
position place = option_map (λ (x : Place). x.at) place

abbrev pub positions : KeyPair → Pair
positions p = record { before = position p.before; after = position p.after }

-- PAIRS: there is a list of pairs with keys (`keyed`) that meets `AreKeyPairsOf`, and the list ps has the positions of these pairs, in the same order
pub record ArePairsOf (old new : List Place) (ps : List Pair) : Type 0 where
  pub keyed : List KeyPair
  pub of_keys : AreKeyPairsOf old new keyed
  pub are : ps ≡ map positions keyed

-- ONE ANSWER: for two lists of places, at most one list of pairs meets `ArePairsOf`
abbrev pub OneAnswer : Type 0
OneAnswer = (old new : List Place) (ps qs : List Pair) → ArePairsOf old new ps → ArePairsOf old new qs → ps ≡ qs

-- the first place in the list that has the key k; none if no place has it
abbrev pub place_of : ℕ → List Place → Option Place
place_of k [] = None
place_of k (x ∷ xs) = if k == x.key then Some x else place_of k xs

-- the places that the two lists have for the key k, as a pair
abbrev pub key_pair : List Place → List Place → ℕ → KeyPair
key_pair old new k = record { before = place_of k old; after = place_of k new }

-- the next pair of two lists, given their first places x and y. If their keys are equal, the pair has both. Otherwise it has only the place with the lesser key. The two tests say whether x's key is less and whether it is greater
abbrev pub beside : Bool → Bool → Place → Place → KeyPair
beside true greater x y = record { before = Some x; after = None }
beside false true x y = record { before = None; after = Some y }
beside false false x y = record { before = Some x; after = Some y }

abbrev pub least_pair : Option Place → Option Place → KeyPair
least_pair None after = record { before = None; after = after }
least_pair (Some x) None = record { before = Some x; after = None }
least_pair (Some x) (Some y) = beside (nat_lt x.key y.key) (nat_lt y.key x.key) x y

-- how many places of one list a pair uses up: 0 or 1
abbrev pub taken : Option Place → ℕ
taken None = 0
taken (Some x) = 1
