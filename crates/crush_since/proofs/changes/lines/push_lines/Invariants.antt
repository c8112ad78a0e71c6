use Rattle.std.proofs.Common.{◌≡◌, ◌++◌, take}
use Rattle.std.specs.Prelude.{flat_map}
use Rattle.crush_since.specs.ChangeText.{change_line}
use Rattle.crush_since.specs.ClassChangesSeen.{shown_change}
use Rattle.crush_since.proofs.changes.lines.push_lines.Given as goal

abbrev pub invariant-loop-row : goal.invariant-loop-row
invariant-loop-row g l =
    l.out.items ≡ l.fn.out.items ++ flat_map (λ row. change_line l.maps.old.map.now.setting l.maps.new.map.now.setting l.widths (shown_change l.maps l.weights row)) (take l.row-index l.rows)
