use Rattle.std.proofs.Common.{◌≡◌, ◌++◌, List, map, take}
use Rattle.crush_since.specs.ChangePart.{rows_at}
use Rattle.crush_since.specs.Changes.{ChangeData}
use Rattle.crush_since.specs.PartWalk.{rows_from}
use Rattle.crush_since.specs.SeenChange.{row_change}
use Rattle.crush_since.proofs.changes.part.rows_at.Given as goal

-- the rows kept so far, whatever rows follow
abbrev pub invariant-loop-row : goal.invariant-loop-row
invariant-loop-row g l = (rest : List ChangeData) → rows_at l.item (map (row_change l.maps) (take l.row-index l.rows) ++ rest) ≡ map (row_change l.maps) l.kept.items ++ rows_from l.item l.reached rest
