-- A bucket whose items are moved to another vector.
use Rattle.std.specs.Prelude.{◌≡◌, ℕ, ◌≤◌, [], ◌==◌, if◌then◌else◌, Vec, vec_capacity}
use Rattle.crush_model.specs.Items.{Items, none, device, bucket}
use Rattle.crush_nodes.specs.Room.{count}
use Rattle.crush_nodes.specs.declared.node.Node.{Node}
use Rattle.crush_walks.specs.Swapping.{first_as_bucket}

-- the items in which each bucket that has the id b, at any depth, has the capacity m; everything else is unchanged
abbrev pub with_capacity : ℕ → ℕ → Items → Items
with_capacity b m none = none
with_capacity b m (device d rest) = device d (with_capacity b m rest)
with_capacity b m (bucket h w n kids rest) = bucket h w (if h.id == b then m else n) (with_capacity b m kids) (with_capacity b m rest)

-- the items in which each bucket among the items themselves has the capacity m; the items below them are unchanged
abbrev pub with_own_capacity : ℕ → Items → Items
with_own_capacity m none = none
with_own_capacity m (device d rest) = device d (with_own_capacity m rest)
with_own_capacity m (bucket h w n kids rest) = bucket h w m kids (with_own_capacity m rest)

-- the first of the items is a bucket that holds at most m items
abbrev pub HoldsUpTo : ℕ → Items → Type 0
HoldsUpTo m none = ⊥
HoldsUpTo m (device d rest) = ⊥
HoldsUpTo m (bucket h w n kids rest) = count kids ≤ m

-- the bucket x became y, which differs from x only in its capacity, which is m. The returned vector `out` is empty and has the old capacity, which suffices for the bucket's items
pub record HasBufferReplaced {A Z : Type 0} (m : ℕ) (x y : Items) (out : Vec (Node A) Z) : Type 0 where
  pub is : y ≡ with_own_capacity m x
  pub empty : out.items ≡ []
  pub capacity : vec_capacity out ≡ (first_as_bucket x).capacity
  pub enough : HoldsUpTo (vec_capacity out) x
