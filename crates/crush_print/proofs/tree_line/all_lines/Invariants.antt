use Rattle.std.proofs.Common.{◌≡◌, ℕ, map, take}
use Rattle.std.specs.Prelude.{Option, flat_map}
use Rattle.crush_items.specs.Tree.{WalkStepData}
use Rattle.crush_print.specs.ClassTree.{weighed}
use Rattle.crush_print.specs.TreeLine.{line_data}
use Rattle.crush_print.specs.WalkStep.{walk_step_data}
use Rattle.crush_print.proofs.tree_line.all_lines.Given as goal

abbrev pub invariant-loop-at : goal.invariant-loop-at
invariant-loop-at g l = (f : WalkStepData → Option ℕ) → l.weights ≡ map f (map walk_step_data l.steps)
    → map line_data l.lines.items ≡ flat_map (λ s. weighed (f s) s) (map walk_step_data (take l.at l.steps))
