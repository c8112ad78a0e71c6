-- When an item can be put at a destination. The numbers of devices and buckets, and the sums, are not tested yet.
use Rattle.std.specs.Prelude.{◌≡◌, ℕ, ◌≤◌, List, true, false, bytes_eq}
use Rattle.std.specs.List.{count_by}
use Rattle.crush_units.specs.declared.id.ItemId.{ItemId}
use Rattle.crush_units.specs.declared.id.ItemId.TheVariants.{Device}
use Rattle.crush_units.specs.declared.limits.TheConstants.{HEAVIEST_DEVICE}
use Rattle.crush_model.specs.Table.{Row, is_there}
use Rattle.crush_edits.specs.LawPut.{IsApart}
use Rattle.crush_edits.specs.Located.{is_taken}
use Rattle.crush_edits.specs.Stops.{StopData}
use Rattle.crush_apply.specs.Destination.{DestinationData, Leads}

-- the table has the item i, the destination is right for the table, and the bucket that ends the route is neither the item i nor below it
pub record CanMove (t : List Row) (i : ItemId) (to : DestinationData) : Type 0 where
  pub leads : Leads t to
  pub there : is_there t i ≡ true
  pub apart : IsApart t i to.stops

-- the device d, with the name n and the weight w, can be put at the destination, whether the table has it or not: no other item has the name, the table doesn't have the device with another name, no stop has the name, and the weight is in range
pub record CanArrive (t : List Row) (d : ℕ) (n : List ℕ) (w : ℕ) (to : DestinationData) : Type 0 where
  pub leads : Leads t to
  pub own : is_taken t (Device d) n ≡ false
  pub other : count_by (λ (p : StopData). bytes_eq p.name n) to.stops ≡ 0
  pub weight : w ≤ HEAVIEST_DEVICE
