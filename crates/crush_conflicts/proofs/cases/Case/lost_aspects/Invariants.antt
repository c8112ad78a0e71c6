use Rattle.std.proofs.Common.{◌≡◌, List, map, take}
use Rattle.crush_model.specs.Stands.{Stands}
use Rattle.crush_model.specs.Table.{Row}
use Rattle.crush_conflicts.specs.Cases.{lost_among}
use Rattle.crush_conflicts.specs.CasesSeen.{case_data, found_data}
use Rattle.crush_conflicts.proofs.cases.Case.lost_aspects.Given as goal

-- what the operators so far have lost
abbrev pub invariant-loop-found : goal.invariant-loop-found
invariant-loop-found g l = (t : List Row) → Stands l.known t → l.lost ≡ lost_among t (case_data l.self) (map found_data (take l.found-index l.alone))
