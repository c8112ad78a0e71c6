-- The rows of the tree that shows what has changed, computed from the nodes of a map as plain data instead of from its table; and the sorted list of a forest's buckets.
use Rattle.std.specs.Prelude.{ℕ, ◌+◌, true, false, List, [], ◌∷◌, ◌++◌, Option, Some, if◌then◌else◌, map}
use Rattle.crush_units.specs.declared.id.ItemId.TheVariants.{Device, Bucket}
use Rattle.std.specs.List.Sorted.{IsNonDecreasingBy, IsPermutation}
use Rattle.crush_model.specs.Forest.{ForestData, all_items}
use Rattle.crush_model.specs.Items.{BucketData, Items, none, device, bucket}
use Rattle.crush_model.specs.Table.{Row, kids, is_there}
use Rattle.crush_nodes.specs.Seen.{items_of, node_id}
use Rattle.crush_nodes.specs.declared.node.Node.{Node}
use Rattle.crush_print.specs.ItemsText.{buckets_among}
use Rattle.crush_since.specs.Changes.{ChangeData, change_at, stands_in, left_from, is_listed, with_below}
use Rattle.crush_since.specs.Since.{PlainMap}

-- the rows of a list of the old map's items, in the place where the old map had them. If an item is a bucket that the new map doesn't have, the rows of the items that the bucket held follow after the bucket's row
abbrev pub stood_of : List Row → List Row → ℕ → Items → List ChangeData
stood_of t u depth none = []
stood_of t u depth (device d rest) = change_at t u false depth (Device d.id) ∷ stood_of t u depth rest
stood_of t u depth (bucket h w m k rest) =
    change_at t u false depth (Bucket h.id) ∷ ((if is_there u (Bucket h.id) then [] else stood_of t u (depth + 1) k) ++ stood_of t u depth rest)

-- the rows for one node of the old map; no rows if the new map has the node's item in the same place
abbrev pub left_of : {A : _} → List Row → List Row → ℕ → Option ℕ → Node A → List ChangeData
left_of t u depth place node = if stands_in u place (node_id node) then [] else stood_of t u depth (items_of (node ∷ []))

-- the rows of a list of the new map's items, in the place where the new map has them
abbrev pub stands_of : PlainMap → PlainMap → ℕ → Items → List ChangeData
stands_of old new depth none = []
stands_of old new depth (device d rest) = with_below (is_listed old new (Device d.id)) (change_at old.table new.table true depth (Device d.id)) [] ++ stands_of old new depth rest
stands_of old new depth (bucket h w m k rest) =
    with_below (is_listed old new (Bucket h.id)) (change_at old.table new.table true depth (Bucket h.id))
    (stands_of old new (depth + 1) k ++ left_from old.table new.table (depth + 1) (Some h.id) (kids old.table h.id))
    ++ stands_of old new depth rest

-- the list has all buckets of a forest, sorted by the distances of their ids from 0. The function `see` shows each element as plain data
pub record AreBuckets {X : Type 0} (see : X → BucketData) (f : ForestData) (xs : List X) : Type 0 where
  pub same : IsPermutation (buckets_among (all_items f)) (map see xs)
  pub rising : IsNonDecreasingBy (λ x. (see x).header.id) xs
