-- The new buckets of a route, and when an item can be put into the bucket of the route's first stop.
use Rattle.std.specs.Prelude.{◌≡◌, ◌<◌, ◌++◌, ℕ, List, Option, Some, None, Result, IfOk, OnOk, OnErr, false, length, bytes_eq}
use Rattle.std.specs.List.{count_by}
use Rattle.crush_units.specs.declared.id.ItemId.TheVariants.{Device}
use Rattle.crush_model.specs.Forest.{ForestData}
use Rattle.crush_model.specs.Items.{LeafData, Items, none}
use Rattle.crush_model.specs.ItemRows.{device_row}
use Rattle.crush_model.specs.Stands.{Stands}
use Rattle.crush_model.specs.Table.{Row, is_there, is_named, free_ids}
use Rattle.crush_model.specs.Lawful.{IsRow, is_too_heavy, has_too_many}
use Rattle.crush_nodes.specs.Room.{room as room_at}
use Rattle.crush_nodes.specs.declared.place.Place.{Place}
use Rattle.crush_nodes.specs.declared.place.Place.TheVariants.{Bucket as AtBucket, Root}
use Rattle.crush_edits.specs.Boxes.{boxes}
use Rattle.crush_edits.specs.LawPut.{IsApart}
use Rattle.crush_edits.specs.Put.{NewData, with_ids, put}
use Rattle.crush_edits.specs.Stops.{StopData}
use Rattle.crush_apply.specs.declared.addition.Addition.{Addition}
use Rattle.crush_apply.specs.UndoSteps.{UndoesAddition}

-- the place of the receiver: the receiver itself if there is one, and otherwise the list of roots
abbrev pub place_at : Option ℕ → Place
place_at None = Root
place_at (Some b) = AtBucket b

-- the new buckets for the stops, with the free ids nearest to 0
abbrev pub numbered : List Row → List StopData → List NewData
numbered t ps = with_ids (free_ids t (length ps)) ps

-- these new buckets as one item: the bucket of each stop is in the bucket of the next stop and has memory for one item, and the bucket of the first stop is empty
abbrev pub new_boxes : List Row → List StopData → Items
new_boxes t ps = boxes 1 none (numbered t ps)

-- the item of the row r can be put into the bucket of the route's first stop, with the weight w: the bucket that ends the route is neither the item nor below it, and counts and sums are in range afterwards
pub record CanPut (t : List Row) (r : Row) (w : ℕ) (ps : List StopData) : Type 0 where
  pub apart : IsApart t r.id ps
  pub room : has_too_many (put t (record r { weight = w }) ps) ≡ false
  pub light : is_too_heavy (put t (record r { weight = w }) ps) ≡ false

-- a device that the table doesn't have can be put into the bucket of the route's first stop: no row and no stop has the name of the device, its row is valid, and counts and sums are in range afterwards
pub record CanPutNew (t : List Row) (d : LeafData) (ps : List StopData) : Type 0 where
  pub gone : is_there t (Device d.id) ≡ false
  pub unnamed : is_named t d.name ≡ false
  pub other : count_by (λ (p : StopData). bytes_eq p.name d.name) ps ≡ 0
  pub form : (b : ℕ) → IsRow (device_row (Some b) d)
  pub room : has_too_many (put t (device_row None d) ps) ≡ false
  pub light : is_too_heavy (put t (device_row None d) ps) ≡ false

-- If the call succeeds, it returns a bucket that has room for an item, and it may have added rows to the forest. For every table t that the old forest represents, this bucket is `which t`. The new forest represents the table t followed by the rows `more t`, which may be none. If the returned addition were undone, the forest would be exactly the old forest. If the call fails, nothing has changed
pub record MakesRoom {A E : Type 0} (more : List Row → List Row) (which : List Row → Option ℕ) (old new : ForestData) (answer : Result (ℕ × Addition A) E) : Type 0 where
  pub next : IfOk answer (λ z. (t : List Row) → Stands old t → which t ≡ Some z.0)
  pub stands : OnOk answer ((t : List Row) → Stands old t → Stands new (t ++ more t))
  pub room : IfOk answer (λ z. 0 < room_at new (AtBucket z.0))
  pub goes : IfOk answer (λ z. UndoesAddition z.1 new old)
  pub unchanged : OnErr answer (new ≡ old)
