-- The results of the tests that say whether new items can be attached at a place of a forest. In these definitions `answer` is the result of the test.
use Rattle.std.specs.Prelude.{◌≡◌, ◌↔◌, ◌≤◌, ◌+◌, List, Bool, IsTrue}
use Rattle.std.specs.Bool.{OnTrue}
use Rattle.crush_units.specs.declared.limits.TheConstants.{MOST_BUCKETS, MOST_DEVICES}
use Rattle.crush_model.specs.Forest.{ForestData, rows_of}
use Rattle.crush_model.specs.Items.{Items, size_of}
use Rattle.crush_model.specs.Stands.{Stands}
use Rattle.crush_model.specs.Table.{Row, device_count, bucket_count}
use Rattle.crush_nodes.specs.Attachable.{CanAttach}
use Rattle.crush_nodes.specs.Ops.{is_place}
use Rattle.crush_nodes.specs.Search.{devices_in}
use Rattle.crush_nodes.specs.declared.place.Place.{Place}

-- The answer says whether the place p exists in the forest's own rows. It also says whether p exists in each table that the forest represents.
pub record AnswersPlace (p : Place) (f : ForestData) (answer : Bool) : Type 0 where
  pub own : answer ≡ is_place (rows_of f) p
  pub tables : (t : List Row) → Stands f t → answer ≡ is_place t p

-- The answer is true if and only if the items n meet every condition for being attached at the place p, except for room. The conditions are the same for the forest's own rows and for each table that the forest represents.
pub record AnswersWhatComes (p : Place) (n : Items) (f : ForestData) (answer : Bool) : Type 0 where
  pub own : IsTrue answer ↔ CanAttach (rows_of f) p n
  pub tables : (t : List Row) → Stands f t → IsTrue answer ↔ CanAttach t p n

-- The answer is true if and only if the forest and the items n together have at most `MOST_DEVICES` devices and at most `MOST_BUCKETS` buckets.
pub record AnswersFew (n : Items) (f : ForestData) (answer : Bool) : Type 0 where
  pub devices : OnTrue answer (device_count (rows_of f) + devices_in n ≤ MOST_DEVICES)
  pub buckets : OnTrue answer (bucket_count (rows_of f) + size_of n ≤ MOST_BUCKETS)
  pub all : device_count (rows_of f) + devices_in n ≤ MOST_DEVICES → bucket_count (rows_of f) + size_of n ≤ MOST_BUCKETS → IsTrue answer
