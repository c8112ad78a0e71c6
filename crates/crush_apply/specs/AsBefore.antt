-- What is true of a hierarchy after all edits to it have been undone.
use Rattle.std.specs.Prelude.{◌≡◌, List}
use Rattle.crush_model.specs.Table.{Row}
use Rattle.crush_model.specs.Forest.{ForestData}
use Rattle.crush_model.specs.Stands.{Stands}
use Rattle.crush_nodes.specs.Room.{room}
use Rattle.crush_nodes.specs.declared.place.Place.{Place}

-- the new hierarchy represents every table that the old one represented, and each place has as much room as before: as many further items fit into it without a new allocation
pub record IsAsBefore (old new : ForestData) : Type 0 where
  pub stands : (t : List Row) → Stands old t → Stands new t
  pub rooms : (p : Place) → room new p ≡ room old p
