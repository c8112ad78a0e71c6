-- A bucket, or a vector of items, that gets a larger vector if it is full. The old vector is returned.
use Rattle.std.specs.Prelude.{◌≡◌, ℕ, ◌*◌, ◌+◌, ◌<◌, ◌≤◌, [], Option, Some, None, Result, Ok, Err, IfNone, IfOk, IfSome, OnErr, Vec, vec_capacity, vec_len}
use Rattle.crush_units.specs.declared.id.ItemId.TheVariants.{Bucket}
use Rattle.crush_model.specs.Items.{Items, none, device, bucket}
use Rattle.crush_nodes.specs.Ops.{part_of}
use Rattle.crush_nodes.specs.Room.{bucket_room, count}
use Rattle.crush_nodes.specs.declared.node.Node.{Node}
use Rattle.crush_walks.specs.BufferReplaced.{with_capacity, with_own_capacity}
use Rattle.crush_walks.specs.Swapping.{first_as_bucket}

-- the vector `old` became `new`. If the answer has no vector, then nothing changed and there was room for one more item. If the answer has a vector, then `old` was full, and `new` has the same items and 1.5 times the capacity, rounded down, plus one; the vector in the answer is empty and has the old capacity. After an error nothing has changed
pub record IsGrown {X Z E : Type 0} (old new : Vec X Z) (answer : Result (Option (Vec X Z)) E) : Type 0 where
  pub none : IfOk answer (λ it. IfNone it ((new ≡ old) × (vec_len old < vec_capacity old)))
  pub some : IfOk answer (λ it. IfSome it (λ before. (new.items ≡ old.items) × (before.items ≡ []) × (vec_capacity before ≡ vec_capacity old) × (vec_capacity old ≤ vec_len old) × (3 * vec_capacity before < 2 * vec_capacity new) × (2 * vec_capacity new ≤ 3 * vec_capacity before + 2)))
  pub err : OnErr answer (new ≡ old)

-- the first of the items is a bucket
abbrev pub IsBucket : Items → Type 0
IsBucket none = ⊥
IsBucket (device d rest) = ⊥
IsBucket (bucket h w m kids rest) = Unit {0}

-- the returned vector `out` is empty and has the capacity of the bucket x, the first of some items. This bucket was full. The new capacity m is 1.5 times the old capacity, rounded down, plus one
pub record IsLarger {A Z : Type 0} (x : Items) (m : ℕ) (out : Vec (Node A) Z) : Type 0 where
  pub empty : out.items ≡ []
  pub capacity : vec_capacity out ≡ (first_as_bucket x).capacity
  pub enough : count (first_as_bucket x).kids ≤ vec_capacity out
  pub full : (first_as_bucket x).capacity ≤ count (first_as_bucket x).kids
  pub half : 3 * vec_capacity out < 2 * m
  pub most : 2 * m ≤ 3 * vec_capacity out + 2

-- the bucket x, the first of some items, was given room for one more item if it had none, and became y. After an error nothing has changed. If the answer has no vector, then nothing changed and the bucket had room. If the answer has a vector, then y is x with a larger capacity m, as `IsLarger` says
abbrev pub IsGrownBucket : {A Z E : Type 0} → Items → Items → Result (Option (Vec (Node A) Z)) E → Type 0
IsGrownBucket x y (Err e) = y ≡ x
IsGrownBucket x y (Ok None) = (y ≡ x) × (count (first_as_bucket x).kids < (first_as_bucket x).capacity)
IsGrownBucket x y (Ok (Some out)) = (m : ℕ) × (y ≡ with_own_capacity m x) × IsLarger x m out

-- the bucket b, at any depth among the items t, was given room for one more item if it had none, and t became u. If the answer has no vector, then nothing changed and the bucket had room. If the answer has a vector, then u is t with a larger capacity m of the bucket, as `IsLarger` says. After an error nothing has changed
pub record IsGrownIn {A Z E : Type 0} (b : ℕ) (t u : Items) (answer : Result (Option (Vec (Node A) Z)) E) : Type 0 where
  pub none : IfOk answer (λ it. IfNone it ((u ≡ t) × (0 < bucket_room b t)))
  pub some : IfOk answer (λ it. IfSome it (λ before. (m : ℕ) × (u ≡ with_capacity b m t) × IsLarger (part_of (Bucket b) t) m before))
  pub err : OnErr answer (u ≡ t)
