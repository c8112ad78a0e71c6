use Rattle.std.proofs.Common.{◌≡◌, [], ◌∷◌, ◌++◌, ap, sym, subst, ◌∙◌}
use Rattle.std.specs.Prelude.{None, map}
use Rattle.std.proofs.lemmas.List.{take_more, take_all}
use Rattle.crush_edits.specs.SettingSeen.{step_data}
use Rattle.crush_edits.specs.declared.rule.Step.{Step}
use Rattle.crush_edits.proofs.SettingLaws.{map-push}
use Rattle.crush_builder.specs.Rules.{kept_step, word_fault}
use Rattle.crush_builder.proofs.builder.MapBuilder.kept_steps.Goals as goal

pub kept_step-requires : goal.kept_step-requires
kept_step-requires g c = record {
  clear = λ d i. subst (λ (x : Step). word_fault d x ≡ None) (sym c.step-item.is) (c.requires.clear d i c.loop-step.step-index c.step-item.result c.loop-step-test.true);
}

pub loop-step-preserved : goal.loop-step-preserved
loop-step-preserved g c = λ d i.
    let one : step_data c.in_ok-step.step ≡ kept_step d c.step-item.result = c.in_ok-step.ensures d i in
    ap (map step_data) c.in_ok-push.ensures.items ∙ map-push step_data _ c.in_ok-step.step
    ∙ (λ k. c.loop-step.invariant d i k ++ (one ∙ ap (kept_step d) c.step-item.is) k ∷ [])
    ∙ sym (ap (map (kept_step d)) (take_more _ c.loop-step.step-index c.step-item.result c.loop-step-test.true) ∙ map-push (kept_step d) _ _)

pub returns : goal.returns
returns g c = λ d i. c.loop-step.invariant d i ∙ ap (map (kept_step d)) (take_all c.loop-step.step-index c.args.steps.now c.loop-step-test.false)
