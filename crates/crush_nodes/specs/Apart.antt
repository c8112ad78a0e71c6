-- Whether the ids, class ids and names of items are distinct, and whether other items use one of them too. Each test of items also looks at the items below them, at all depths.
use Rattle.std.specs.Prelude.{ℕ, ◌≤◌, List, ◌∷◌, Bool, true, false, not, ◌==◌, ◌&&◌, ◌||◌, map, is_some, nat_lt, bytes_eq}
use Rattle.std.specs.List.{count_by, list_any}
use Rattle.crush_units.specs.declared.id.ItemId.{ItemId}
use Rattle.crush_units.specs.declared.id.ItemId.TheVariants.{Device}
use Rattle.crush_units.specs.Id.{same_id}
use Rattle.crush_model.specs.Items.{LeafData, ShadowData, HeaderData, Items, none, device, bucket}
use Rattle.crush_model.specs.Table.{Row, member, used_ids}
use Rattle.crush_model.specs.Tested.{are_apart}
use Rattle.crush_nodes.specs.Ops.{count_of_id}
use Rattle.crush_nodes.specs.Search.{id_in}

-- no two rows of a table have the same id, no two rows have the same name, and no number is used twice as the id of a bucket or as a class id
pub record AreApart (t : List Row) : Type 0 where
  pub ids : (i : ItemId) → count_by (λ (r : Row). same_id r.id i) t ≤ 1
  pub names : (n : List ℕ) → count_by (λ (r : Row). bytes_eq r.name n) t ≤ 1
  pub used : (k : ℕ) → count_by (λ u. u == k) (used_ids t) ≤ 1

-- the ids that a bucket uses: its own id first, then its class ids
abbrev pub header_ids : HeaderData → List ℕ
header_ids h = h.id ∷ map (λ (c : ShadowData). c.id) h.class_ids

-- whether the number b is the id of the bucket or one of its class ids
abbrev pub header_uses : ℕ → HeaderData → Bool
header_uses b h = (h.id == b) || member b (map (λ (c : ShadowData). c.id) h.class_ids)

-- whether a bucket among the items, at any depth, uses the number b as its id or as a class id
abbrev pub uses_in : ℕ → Items → Bool
uses_in b none = false
uses_in b (device d rest) = uses_in b rest
uses_in b (bucket h w m kids rest) = header_uses b h || (uses_in b kids || uses_in b rest)

-- whether one of the items `others`, at any depth, has the id or the name of the device
abbrev pub leaf_shares_a_key : LeafData → Items → Bool
leaf_shares_a_key d others = nat_lt 0 (count_of_id (Device d.id) others) || is_some (id_in d.name others)

-- whether one of the items `others`, at any depth, has the name of the bucket, or uses the id or a class id of the bucket
abbrev pub header_shares_a_key : HeaderData → Items → Bool
header_shares_a_key h others = list_any (λ k. uses_in k others) (header_ids h) || is_some (id_in h.name others)

-- whether one of the items shares an id, a class id or a name with one of the items `others`; both are searched at all depths
abbrev pub shares_a_key : Items → Items → Bool
shares_a_key none others = false
shares_a_key (device d rest) others = leaf_shares_a_key d others || shares_a_key rest others
shares_a_key (bucket h w m kids rest) others = header_shares_a_key h others || (shares_a_key kids others || shares_a_key rest others)

-- whether the bucket's id and its class ids are distinct, and no item below the bucket shares an id, a class id or a name with the bucket
abbrev pub bucket_has_distinct_keys : HeaderData → Items → Bool
bucket_has_distinct_keys h kids = are_apart (λ a b. b == a) (header_ids h) && not (header_shares_a_key h kids)

-- whether no id, class id or name occurs twice among the items, at any depth: no item shares one with the items after it, and no bucket has one twice or shares one with the items below it
abbrev pub have_distinct_keys : Items → Bool
have_distinct_keys none = true
have_distinct_keys (device d rest) = not (shares_a_key (device d none) rest) && have_distinct_keys rest
have_distinct_keys (bucket h w m kids rest) = not (shares_a_key (bucket h w m kids none) rest) && (bucket_has_distinct_keys h kids && (have_distinct_keys kids && have_distinct_keys rest))
