use Rattle.std.proofs.Common.{◌≡◌, ◌++◌, List, take}
use Rattle.std.specs.Prelude.{flat_map}
use Rattle.crush_model.specs.Stands.{Stands}
use Rattle.crush_model.specs.Table.{Row}
use Rattle.crush_items.specs.Items.{item_step}
use Rattle.crush_conflicts.specs.Conflicts.{OperatorData, old_case}
use Rattle.crush_conflicts.specs.Lines.{case_line}
use Rattle.crush_conflicts.specs.MapsSeen.{IsOperator}
use Rattle.crush_conflicts.specs.Pairwise.{Pairwise}
use Rattle.crush_conflicts.proofs.conflicts.push_old_lines.Given as goal

-- the lines of the items so far
abbrev pub invariant-loop-item : goal.invariant-loop-item
invariant-loop-item g l =
    (t z : List Row) (os : List OperatorData) → Stands l.naming.known.now t → Stands l.items.before t → Stands l.items.after z → Pairwise IsOperator os l.items.operators.items
    → l.lines.items ≡ l.fn.lines.items ++ flat_map (λ x. case_line l.naming.setting.now t (old_case t os z (item_step x))) (take l.item-index l.all)
