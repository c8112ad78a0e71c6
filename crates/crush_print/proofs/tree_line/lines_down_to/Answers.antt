use Rattle.std.proofs.Common.{◌∙◌, ◌∷◌, [], ap, sym, arith, map, append-nil}
use Rattle.std.specs.Prelude.{None, flat_map}
use Rattle.std.proofs.lemmas.List.{take_all}
use Rattle.crush_print.specs.ClassTree.{weighed}
use Rattle.crush_print.specs.TreeLine.{line_data}
use Rattle.crush_print.specs.TreePart.{down_to}
use Rattle.crush_print.specs.WalkStep.{walk_step_data}
use Rattle.crush_print.proofs.LineLaws.{one_step, weight_is}
use Rattle.crush_print.proofs.tree_line.lines_down_to.Goals as goal

pub loop-at-preserved : goal.loop-at-preserved
loop-at-preserved g c = λ f are rest.
    let steps = c.args.steps.now in
    let x = c.index-steps-at.result in
    let w = weight_is walk_step_data f steps c.args.weights.now c.loop-at.at x c.weight_at.result are c.loop-at-test.true c.index-steps-at.is c.weight_at.ensures in
    ap (λ l. flat_map (λ s. weighed (f s) s) (down_to c.args.kind None l)) (one_step walk_step_data steps c.loop-at.at x rest c.loop-at-test.true c.index-steps-at.is)
    ∙ c.loop-at.invariant f are (walk_step_data x ∷ rest) ∙ c.in_ok-closed.ensures f rest w

pub returns : goal.returns
returns g c = λ f are.
    let lines = map line_data c.loop-at.lines.items in
    sym (append-nil lines) ∙ sym (c.loop-at.invariant f are [])
    ∙ ap (λ l. flat_map (λ s. weighed (f s) s) (down_to c.args.kind None l)) (append-nil _ ∙ ap (map walk_step_data) (take_all c.loop-at.at c.args.steps.now (omega (arith, c.loop-at-test.false))))
