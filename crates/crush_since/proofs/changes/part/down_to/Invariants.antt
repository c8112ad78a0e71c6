use Rattle.std.proofs.Common.{◌≡◌, ◌++◌, List, map, take}
use Rattle.std.specs.Prelude.{None}
use Rattle.crush_since.specs.ChangePart.{down_to}
use Rattle.crush_since.specs.Changes.{ChangeData}
use Rattle.crush_since.specs.SeenChange.{row_change}
use Rattle.crush_since.proofs.changes.part.down_to.Given as goal

-- the rows kept so far, whatever rows follow
abbrev pub invariant-loop-row : goal.invariant-loop-row
invariant-loop-row g l = (rest : List ChangeData) → down_to l.kind None (map (row_change l.maps) (take l.row-index l.rows) ++ rest) ≡ map (row_change l.maps) l.kept.items ++ down_to l.kind l.closed rest
