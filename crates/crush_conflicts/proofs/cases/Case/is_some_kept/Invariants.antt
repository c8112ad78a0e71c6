use Rattle.std.proofs.Common.{◌≡◌, List, map, take}
use Rattle.std.specs.List.{list_any}
use Rattle.crush_model.specs.Stands.{Stands}
use Rattle.crush_model.specs.Table.{Row}
use Rattle.crush_conflicts.specs.Cases.{is_kept_of, lost_aspects}
use Rattle.crush_conflicts.specs.CasesSeen.{case_data, found_data}
use Rattle.crush_conflicts.proofs.cases.Case.is_some_kept.Given as goal

-- what the operators so far have of values that are kept
abbrev pub invariant-loop-found : goal.invariant-loop-found
invariant-loop-found g l = (t : List Row) → Stands l.known t → l.lost ≡ lost_aspects t (case_data l.self) → l.is_kept ≡ list_any (is_kept_of t (case_data l.self)) (map found_data (take l.found-index l.alone))
