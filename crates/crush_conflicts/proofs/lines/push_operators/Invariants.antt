use Rattle.std.proofs.Common.{◌≡◌, ◌++◌, List, take}
use Rattle.std.specs.Prelude.{flat_map}
use Rattle.crush_model.specs.Stands.{Stands}
use Rattle.crush_model.specs.Table.{Row}
use Rattle.crush_conflicts.specs.Cases.{lost_aspects}
use Rattle.crush_conflicts.specs.CasesSeen.{case_data, found_data}
use Rattle.crush_conflicts.specs.Lines.{operator_text}
use Rattle.crush_conflicts.proofs.lines.push_operators.Given as goal

-- the operators so far
abbrev pub invariant-loop-found : goal.invariant-loop-found
invariant-loop-found g l =
    (t : List Row) → Stands l.naming.known.now t → l.lost ≡ lost_aspects t (case_data l.case)
    → l.text.items ≡ l.fn.text.items ++ flat_map (λ x. operator_text l.naming.setting.now t (case_data l.case) (found_data x)) (take l.found-index l.alone)
