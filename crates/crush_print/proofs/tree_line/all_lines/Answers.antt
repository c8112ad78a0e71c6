use Rattle.std.proofs.Common.{◌∙◌, ◌++◌, ap, arith, map}
use Rattle.std.specs.Prelude.{flat_map}
use Rattle.std.proofs.lemmas.List.{take_all}
use Rattle.crush_print.specs.ClassTree.{weighed}
use Rattle.crush_print.specs.TreeLine.{line_data}
use Rattle.crush_print.specs.WalkStep.{walk_step_data}
use Rattle.crush_print.proofs.LineLaws.{one_line, weight_is}
use Rattle.crush_print.proofs.tree_line.all_lines.Goals as goal

pub loop-at-preserved : goal.loop-at-preserved
loop-at-preserved g c = λ f are.
    let steps = c.args.steps.now in
    let x = c.index-steps-at.result in
    let w = weight_is walk_step_data f steps c.args.weights.now c.loop-at.at x c.weight_at.result are c.loop-at-test.true c.index-steps-at.is c.weight_at.ensures in
    one_line walk_step_data (λ s. weighed (f s) s) _ _ steps c.loop-at.at x c.loop-at-test.true c.index-steps-at.is (c.loop-at.invariant f are)
    (c.in_ok-push_line.ensures ∙ ap (λ o. map line_data c.loop-at.lines.items ++ weighed o (walk_step_data x)) w)

pub returns : goal.returns
returns g c = λ f are.
    c.loop-at.invariant f are ∙ ap (λ l. flat_map (λ s. weighed (f s) s) (map walk_step_data l)) (take_all c.loop-at.at c.args.steps.now (omega (arith, c.loop-at-test.false)))
