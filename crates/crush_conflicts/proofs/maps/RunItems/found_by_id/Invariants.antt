use Rattle.std.proofs.Common.{◌≡◌, List, map, take}
use Rattle.crush_items.specs.ItemData.{item_of}
use Rattle.crush_conflicts.specs.CasesSeen.{found_data}
use Rattle.crush_conflicts.specs.Conflicts.{OperatorData, found_by}
use Rattle.crush_conflicts.specs.MapsSeen.{IsOperator}
use Rattle.crush_conflicts.specs.Pairwise.{Pairwise}
use Rattle.crush_conflicts.proofs.maps.RunItems.found_by_id.Given as goal

-- what the maps so far have of the item
abbrev pub invariant-loop-operator : goal.invariant-loop-operator
invariant-loop-operator g l = (os : List OperatorData) → Pairwise IsOperator os l.self.operators.items → map found_data l.found.items ≡ map (found_by (λ u. item_of u l.id)) (take l.operator-index os)
