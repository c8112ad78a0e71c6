use Rattle.std.proofs.Common.{◌≡◌, List, map, take}
use Rattle.crush_model.specs.Stands.{Stands}
use Rattle.crush_model.specs.Table.{Row}
use Rattle.crush_conflicts.specs.CasesSeen.{found_data}
use Rattle.crush_conflicts.specs.Conflicts.{OperatorData, found_by}
use Rattle.crush_conflicts.specs.MapsSeen.{IsOperator}
use Rattle.crush_conflicts.specs.NewItems.{new_item}
use Rattle.crush_conflicts.specs.Pairwise.{Pairwise}
use Rattle.crush_conflicts.proofs.maps.RunItems.found_by_name.Given as goal

-- what the maps so far have of the item
abbrev pub invariant-loop-operator : goal.invariant-loop-operator
invariant-loop-operator g l = (t : List Row) (os : List OperatorData) → Stands l.self.before t → Pairwise IsOperator os l.self.operators.items → map found_data l.found.items ≡ map (found_by (λ u. new_item t u l.name)) (take l.operator-index os)
