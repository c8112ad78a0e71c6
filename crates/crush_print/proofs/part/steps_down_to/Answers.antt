use Rattle.std.proofs.Common.{◌∙◌, [], ap, sym, map, arith, append-nil}
use Rattle.std.specs.Prelude.{None}
use Rattle.std.proofs.lemmas.List.{take_all}
use Rattle.crush_print.specs.WalkStep.{walk_step_data}
use Rattle.crush_print.specs.TreePart.{down_to}
use Rattle.crush_print.proofs.part.steps_down_to.Goals as goal

pub returns : goal.returns
returns g c =
    sym (append-nil (map walk_step_data c.loop-step.kept.items)) ∙ sym (c.loop-step.invariant [])
    ∙ ap (down_to c.args.kind None) (append-nil _ ∙ ap (map walk_step_data) (take_all c.loop-step.step-index c.args.steps.now (omega (arith, c.loop-step-test.false))))
