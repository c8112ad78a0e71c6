-- The items of a place are moved from one vector to another.
use Rattle.std.specs.Prelude.{◌≡◌, ◌*◌, ◌+◌, ◌-◌, ◌<◌, ◌≤◌, ℕ, [], true, false, List, Option, Result, OnErr, OnOk, IfNone, IfOk, IfSome, Vec, vec_capacity}
use Rattle.crush_model.specs.Forest.{ForestData, rows_of}
use Rattle.crush_model.specs.Stands.{Stands}
use Rattle.crush_model.specs.Table.{Row}
use Rattle.crush_nodes.specs.Ops.{is_place}
use Rattle.crush_nodes.specs.Room.{count, room as room_at, same_place}
use Rattle.crush_nodes.specs.declared.node.Node.{Node}
use Rattle.crush_nodes.specs.declared.place.Place.{Place}
use Rattle.crush_nodes.specs.declared.place.Place.TheVariants.{Bucket as AtBucket, Root, Unplaced}
use Rattle.crush_walks.specs.BufferReplaced.{with_capacity}
use Rattle.crush_walks.specs.Swapping.{bucket_in}
use Rattle.crush_tree.specs.Memory.{capacity}
use Rattle.crush_tree.specs.Sameness.{IsSameForest}

-- The forest f in which the vector of a place has memory for m items. Everything else is as in f.
abbrev pub forest_with_capacity : Place → ℕ → ForestData → ForestData
forest_with_capacity (AtBucket b) m f = record f { roots = with_capacity b m f.roots }
forest_with_capacity Root m f = record f { root_capacity = m }
forest_with_capacity Unplaced m f = record f { unplaced_capacity = m }

-- How many items are at a place.
abbrev pub count_at : Place → ForestData → ℕ
count_at (AtBucket b) f = count (bucket_in b f.roots).kids
count_at Root f = count f.roots
count_at Unplaced f = count f.unplaced

-- The items of the place p can be moved into the given vector: the place exists, and the vector is empty and has memory for the items at the place.
pub record CanReplaceBuffer {A Z : Type 0} (p : Place) (given : Vec (Node A) Z) (f : ForestData) : Type 0 where
  pub there : is_place (rows_of f) p ≡ true
  pub empty : given.items ≡ []
  pub enough : count_at p f ≤ vec_capacity given

-- The items of the place p are now in a vector with memory for m items, and nothing else has changed. The answer is the vector that had the items before; this vector is now empty. If the items were moved back to the old vector, the forest would be exactly what it was before the call.
pub record ReplacesBuffer {A Z : Type 0} (p : Place) (m : ℕ) (old new : ForestData) (answer : Vec (Node A) Z) : Type 0 where
  pub stands : (t : List Row) → Stands old t → Stands new t
  pub same : IsSameForest new old
  pub rows : rows_of new ≡ rows_of old
  pub is : new ≡ forest_with_capacity p m old
  pub back : old ≡ forest_with_capacity p (vec_capacity answer) new
  pub again : CanReplaceBuffer p answer new
  pub memory : vec_capacity answer ≡ capacity old p
  pub room : room_at new p ≡ m - count_at p old
  pub rooms : (q : Place) → same_place q p ≡ false → room_at new q ≡ room_at old q

-- If the call succeeds, the place p has room for one more item, the items and rows are the same as before, and no place has less room. If the answer is Ok with a vector, the place was full. Its items were moved, as `ReplacesBuffer` says, to a vector with 1.5 times the capacity, rounded down, plus one, and the answer has the old vector. If the answer is Ok without a vector, or an Err, nothing has changed.
pub record GrowsBuffer {A Z E : Type 0} (p : Place) (old new : ForestData) (answer : Result (Option (Vec (Node A) Z)) E) : Type 0 where
  pub stands : (t : List Row) → Stands old t → Stands new t
  pub same : IsSameForest new old
  pub rows : rows_of new ≡ rows_of old
  pub room : OnOk answer (0 < room_at new p)
  pub rooms : (q : Place) → room_at old q ≤ room_at new q
  pub full : IfOk answer (λ it. IfSome it (λ before. room_at old p ≡ 0))
  pub moved : IfOk answer (λ it. IfSome it (λ before. ReplacesBuffer p (capacity new p) old new before))
  pub half : IfOk answer (λ it. IfSome it (λ before. 3 * capacity old p < 2 * capacity new p))
  pub most : IfOk answer (λ it. IfSome it (λ before. 2 * capacity new p ≤ 3 * capacity old p + 2))
  pub none : IfOk answer (λ it. IfNone it (new ≡ old))
  pub err : OnErr answer (new ≡ old)
