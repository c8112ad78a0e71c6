use Rattle.std.proofs.Common.{◌++◌, ap, ◌∙◌}
use Rattle.std.specs.Prelude.{flat_map}
use Rattle.std.proofs.lemmas.List.{take_all}
use Rattle.crush_print.specs.WalkStep.{walk_step_data}
use Rattle.crush_json.specs.Tokens.{tokens_of_all}
use Rattle.crush_json.specs.TreeDocument.{node_if}
use Rattle.crush_json.proofs.Listed.{more, one_more}
use Rattle.crush_json.proofs.tree.push_each.Goals as goal

pub loop-step-preserved : goal.loop-step-preserved
loop-step-preserved g c = λ t are.
    one_more _ _ _ _ _ _ (c.loop-step.invariant t are) (c.in_ok-push_step.ensures t are)
    (more (λ x. tokens_of_all (node_if c.args.setting.now t c.args.stray (walk_step_data x))) c.args.steps.now c.loop-step.step-index c.step-item.result c.loop-step-test.true c.step-item.is)

pub returns : goal.returns
returns g c = λ t are.
    c.loop-step.invariant t are
    ∙ ap (λ xs. c.args.out.now ++ flat_map (λ x. tokens_of_all (node_if c.args.setting.now t c.args.stray (walk_step_data x))) xs) (take_all c.loop-step.step-index c.args.steps.now c.loop-step-test.false)
