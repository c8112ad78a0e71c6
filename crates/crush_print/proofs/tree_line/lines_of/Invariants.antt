use Rattle.std.proofs.Common.{◌≡◌, map, take}
use Rattle.crush_print.specs.TreeLine.{line_data}
use Rattle.crush_print.specs.WalkStep.{walk_step_data}
use Rattle.crush_print.proofs.tree_line.lines_of.Given as goal

abbrev pub invariant-loop-step : goal.invariant-loop-step
invariant-loop-step g l = map line_data l.lines.items ≡ map walk_step_data (take l.step-index l.steps)
