use Rattle.std.proofs.Common.{◌≡◌, ◌++◌, List, map, drop}
use Rattle.std.specs.Prelude.{None, flat_map}
use Rattle.std.specs.Option.{option_map}
use Rattle.crush_model.specs.Stands.{Stands}
use Rattle.crush_model.specs.Table.{Row}
use Rattle.crush_conflicts.specs.Conflicts.{OperatorData, new_case}
use Rattle.crush_conflicts.specs.Lines.{case_line}
use Rattle.crush_conflicts.specs.MapsSeen.{IsOperator}
use Rattle.crush_conflicts.specs.NewItems.{each_once}
use Rattle.crush_conflicts.specs.Pairwise.{Pairwise}
use Rattle.crush_conflicts.proofs.conflicts.push_new_lines.Given as goal

-- the lines so far, and those of the names that are left, are the lines of all names
abbrev pub invariant-loop-name : goal.invariant-loop-name
invariant-loop-name g l =
    (t z : List Row) (os : List OperatorData) → Stands l.naming.known.now t → Stands l.items.before t → Stands l.items.after z → Pairwise IsOperator os l.items.operators.items
    → l.lines.items ++ flat_map (λ n. case_line l.naming.setting.now t (new_case t os z n)) (each_once (option_map (λ n. n.now) l.last) (map (λ n. n.now) (drop l.name-index l.names)))
    ≡ l.fn.lines.items ++ flat_map (λ n. case_line l.naming.setting.now t (new_case t os z n)) (each_once None (map (λ n. n.now) l.names))
