-- Spare memory that is returned to the allocator.
use Rattle.std.specs.Prelude.{◌≡◌, ◌≤◌}
use Rattle.crush_model.specs.Forest.{ForestData}
use Rattle.crush_model.specs.Items.{none}

-- The new forest equals the old one, except for the memory of the list of unplaced devices. This memory isn't larger than before, and it is 0 if there is no unplaced device.
pub record IsShrunk (old new : ForestData) : Type 0 where
  pub same : new ≡ record old { unplaced_capacity = new.unplaced_capacity }
  pub less : new.unplaced_capacity ≤ old.unplaced_capacity
  pub empty : old.unplaced ≡ none → new.unplaced_capacity ≡ 0
