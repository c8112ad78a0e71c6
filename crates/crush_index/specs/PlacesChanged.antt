-- How calls change the places in an index: `old` has the places before a call, and `new` the places after it.
use Rattle.std.specs.Prelude.{◌≡◌, Some, Result, OnOk, OnErr}
use Rattle.crush_units.specs.declared.id.ItemId.{ItemId}
use Rattle.crush_nodes.specs.declared.place.Place.{Place}
use Rattle.crush_index.specs.Hashings.{places_hashings}
use Rattle.crush_index.specs.PlacesAnswers.{StandsSame, StandsAt}
use Rattle.crush_index.specs.declared.places.Places.{Places}

-- if the call succeeds, the item has the place, and each other item has the same place as before; if the call fails, each item has the same place as before. In both cases the hashings are the same as before
pub record Inserts {X E : Type 0} (i : ItemId) (place : Place) (old new : Places) (answer : Result X E) : Type 0 where
  pub ok : OnOk answer (StandsAt old new i (Some place))
  pub err : OnErr answer (StandsSame old new)
  pub hashing : places_hashings new ≡ places_hashings old

-- the copy has the same place for each item, and the same hashings
pub record IsCopyOf (places copy : Places) : Type 0 where
  pub answers : StandsSame places copy
  pub hashing : places_hashings copy ≡ places_hashings places
