use Rattle.std.proofs.Common.{◌≡◌, List, map, take}
use Rattle.std.specs.Prelude.{flat_map}
use Rattle.crush_model.specs.Stands.{Stands}
use Rattle.crush_model.specs.Table.{Row}
use Rattle.crush_conflicts.specs.Conflicts.{OperatorData, tables_of}
use Rattle.crush_conflicts.specs.MapsSeen.{IsOperator}
use Rattle.crush_conflicts.specs.NewItems.{new_names}
use Rattle.crush_conflicts.specs.Pairwise.{Pairwise}
use Rattle.crush_conflicts.proofs.new_items.all_new_names.Given as goal

-- the names of the maps so far
abbrev pub invariant-loop-operator : goal.invariant-loop-operator
invariant-loop-operator g l =
    (t : List Row) (os : List OperatorData) → Stands l.before t → Pairwise IsOperator os l.operators → map (λ n. n.now) l.names.items ≡ flat_map (new_names t) (tables_of (take l.operator-index os))
