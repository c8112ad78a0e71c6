use Rattle.std.proofs.Common.{◌≡◌, ◌++◌, take}
use Rattle.std.specs.Prelude.{flat_map}
use Rattle.crush_print.specs.TreeLine.{line_data}
use Rattle.crush_print.specs.TreeText.{step_line}
use Rattle.crush_print.proofs.tree.push_lines.Given as goal

abbrev pub invariant-loop-line : goal.invariant-loop-line
invariant-loop-line l = l.out.items ≡ l.fn.out.items ++ flat_map (λ s. step_line l.setting l.widths (line_data s)) (take l.line-index l.lines)
