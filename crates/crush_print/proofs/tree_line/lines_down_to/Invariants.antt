use Rattle.std.proofs.Common.{◌≡◌, ◌++◌, ℕ, List, map, take}
use Rattle.std.specs.Prelude.{None, Option, flat_map}
use Rattle.crush_items.specs.Tree.{WalkStepData}
use Rattle.crush_print.specs.ClassTree.{weighed}
use Rattle.crush_print.specs.TreeLine.{line_data}
use Rattle.crush_print.specs.TreePart.{down_to}
use Rattle.crush_print.specs.WalkStep.{walk_step_data}
use Rattle.crush_print.proofs.tree_line.lines_down_to.Given as goal

-- the lines that were appended so far are right, whatever steps follow
abbrev pub invariant-loop-at : goal.invariant-loop-at
invariant-loop-at g l = (f : WalkStepData → Option ℕ) → l.weights ≡ map f (map walk_step_data l.steps) → (rest : List WalkStepData)
    → flat_map (λ s. weighed (f s) s) (down_to l.kind None (map walk_step_data (take l.at l.steps) ++ rest))
    ≡ map line_data l.lines.items ++ flat_map (λ s. weighed (f s) s) (down_to l.kind l.closed rest)
