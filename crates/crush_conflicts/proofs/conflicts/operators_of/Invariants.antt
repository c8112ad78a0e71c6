use Rattle.std.proofs.Common.{List, take}
use Rattle.crush_conflicts.specs.Conflicts.{OperatorData}
use Rattle.crush_conflicts.specs.MapsSeen.{IsMapAlone, IsOperator}
use Rattle.crush_conflicts.specs.Pairwise.{Pairwise}
use Rattle.crush_conflicts.proofs.conflicts.operators_of.Given as goal

-- the operators of the maps so far
abbrev pub invariant-loop-alone : goal.invariant-loop-alone
invariant-loop-alone g l = (os : List OperatorData) → Pairwise IsMapAlone os l.maps → Pairwise IsOperator (take l.alone-index os) l.operators.items
