use Rattle.std.proofs.Common.{◌∙◌, ap, map, sym, ◌++◌}
use Rattle.crush_print.specs.ClassTree.{weighed}
use Rattle.crush_print.specs.TreeLine.{line_data}
use Rattle.crush_print.specs.WalkStep.{walk_step_data}
use Rattle.crush_print.proofs.LineLaws.{no_line, own_line}
use Rattle.crush_print.proofs.tree_line.push_open.Goals as goal

pub returns-then-is_closed : goal.returns-then-is_closed
returns-then-is_closed g c = λ f rest is.
    no_line (λ s. weighed (f s) s) (map line_data c.args.lines.now.items) c.args.kind c.args.closed (walk_step_data c.args.step.now) rest (sym c.is_closed.ensures ∙ c.if-is_closed.true)

pub returns : goal.returns
returns g c = λ f rest is.
    own_line (λ s. weighed (f s) s) (map line_data c.args.lines.now.items) _ c.args.kind c.args.closed c.closed_by.result (walk_step_data c.args.step.now) rest (sym c.is_closed.ensures ∙ c.if-is_closed.false)
    (c.in_ok-push_line.ensures ∙ ap (λ o. map line_data c.args.lines.now.items ++ weighed o (walk_step_data c.args.step.now)) is) c.closed_by.ensures
