-- The conditions under which a map, or a list of items, represents an operator's table.
use Rattle.std.specs.Prelude.{◌≡◌}
use Rattle.crush_model.specs.Stands.{Stands}
use Rattle.crush_conflicts.specs.Conflicts.{OperatorData}
use Rattle.crush_conflicts.specs.declared.conflicts.MapAlone.{MapAlone}
use Rattle.crush_conflicts.specs.declared.maps.Operator.{Operator}

-- x has the name of the operator d, and the map of x represents the table of d
pub record IsMapAlone {A : _} (d : OperatorData) (x : MapAlone A) : Type 0 where
  pub name : x.name.now ≡ d.name
  pub table : Stands x.map.forest d.table

-- x has the name of the operator d, and the items of x are the items of the table of d
pub record IsOperator {A : _} (d : OperatorData) (x : Operator A) : Type 0 where
  pub name : x.name.now ≡ d.name
  pub table : Stands x.items d.table
