-- How contracts see the destination of a location, which is the end of the location's route.
use Rattle.std.specs.Prelude.{◌≡◌, ◌==◌, ℕ, List, [], ◌∷◌, Option, None, Bool, not, length}
use Rattle.crush_units.specs.declared.id.ItemId.{ItemId}
use Rattle.crush_units.specs.Id.{is_device_id}
use Rattle.crush_model.specs.Table.{Row, kind_of}
use Rattle.crush_edits.specs.declared.refusal.Refusal.{Refusal}
use Rattle.crush_edits.specs.declared.refusal.Refusal.TheVariants.{NotABucket, WrongType}
use Rattle.crush_edits.specs.Answer.{first_refusal, meets}
use Rattle.crush_edits.specs.Located.{end_tests}
use Rattle.crush_edits.specs.New.{IsRoute}
use Rattle.crush_edits.specs.Stops.{StopData, fresh_stops, receiver}

-- the end of a route: the stops of the route (`stops`), how many of them need a new bucket (`fresh`), and the bucket that receives the uppermost new bucket (`receiver`). If no bucket is new, the receiver receives the item. If there is no receiver, the uppermost new bucket becomes a root
pub record DestinationData : Type 0 where
  pub stops : List StopData
  pub fresh : ℕ
  pub receiver : Option ℕ

-- the tests of the item i, which ends a route at a stop whose type has the number k: NotABucket if the item is a device, and WrongType if the number of its type isn't k
abbrev pub end_item_tests : List Row → ℕ → ItemId → List (Refusal × Bool)
end_item_tests t k i = (NotABucket, is_device_id i) ∷ ((WrongType, meets (λ n. not (n == k)) (kind_of t i)) ∷ [])

-- k of the stops need a new bucket, b is the receiver (None if there is no receiver), and no test of the end of the route gives a refusal
pub record EndsAt (t : List Row) (ps : List StopData) (k : ℕ) (b : Option ℕ) : Type 0 where
  pub fresh : k ≡ length (fresh_stops t ps)
  pub receiver : b ≡ receiver t ps
  pub passes : first_refusal (end_tests t ps) ≡ None

-- the destination is right for the table: its stops form a route (IsRoute), and `fresh` is the number of stops that need a new bucket. `receiver` is the bucket that ends the route, or None if no bucket ends it
pub record Leads (t : List Row) (to : DestinationData) : Type 0 where
  pub route : IsRoute t to.stops
  pub fresh : to.fresh ≡ length (fresh_stops t to.stops)
  pub receiver : to.receiver ≡ receiver t to.stops
