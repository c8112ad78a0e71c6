use Rattle.std.proofs.Common.{◌≡◌, [], ◌∷◌, ◌++◌, sym, ◌∙◌}
use Rattle.std.proofs.lemmas.List.{take_more, take_all}
use Rattle.crush_edits.proofs.setting.copy_steps.Goals as goal

pub loop-step-preserved : goal.loop-step-preserved
loop-step-preserved c =
    let one : c.in_ok-step.step ≡ c.step-item.result = c.in_ok-step.ensures in
    c.in_ok-push.ensures.items
    ∙ (λ k. c.loop-step.invariant k ++ (one ∙ c.step-item.is) k ∷ [])
    ∙ sym (take_more _ c.loop-step.step-index c.step-item.result c.loop-step-test.true)

pub returns : goal.returns
returns c = c.loop-step.invariant ∙ take_all c.loop-step.step-index c.args.steps.now c.loop-step-test.false
