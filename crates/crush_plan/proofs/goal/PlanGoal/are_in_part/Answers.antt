use Rattle.std.proofs.Common.{◌≡◌, ◌∙◌, ap, refl, sym, arith}
use Rattle.std.specs.List.{list_all}
use Rattle.std.specs.Option.{option_map}
use Rattle.std.proofs.lemmas.List.{take_all}
use Rattle.std.proofs.lemmas.List.Folds.{list_all_at, list_all_more}
use Rattle.crush_nodes.specs.Views.{ViewData}
use Rattle.crush_print.specs.WalkStep.{walk_step_data}
use Rattle.crush_plan.specs.Part.{is_item_in_part}
use Rattle.crush_plan.proofs.goal.PlanGoal.are_in_part.Goals as goal

pub returns-then-not-is_item_in_part : goal.returns-then-not-is_item_in_part
returns-then-not-is_item_in_part g c = λ t u v a b d.
    let test = is_item_in_part t u (option_map (λ n. n.now) c.args.self.now.under) v in
    let one = ap (λ s. test (walk_step_data s).item.id) (sym c.step-item.is) ∙ sym (ap (λ (x : ViewData). test x.id) c.view.ensures) ∙ sym (c.is_item_in_part.ensures t u v a b d) ∙ c.if-not-is_item_in_part.true in
    sym (list_all_at (λ s. test (walk_step_data s).item.id) c.args.steps.now c.loop-step.step-index c.step-item.result c.loop-step-test.true one)

pub loop-step-preserved : goal.loop-step-preserved
loop-step-preserved g c = λ t u v a b d.
    let test = is_item_in_part t u (option_map (λ n. n.now) c.args.self.now.under) v in
    let one = ap (λ s. test (walk_step_data s).item.id) (sym c.step-item.is) ∙ sym (ap (λ (x : ViewData). test x.id) c.view.ensures) ∙ sym (c.is_item_in_part.ensures t u v a b d) ∙ c.if-not-is_item_in_part.false in
    list_all_more (λ s. test (walk_step_data s).item.id) c.args.steps.now c.loop-step.step-index c.step-item.result c.loop-step-test.true ∙ rw (c.loop-step.invariant t u v a b d, one) refl

pub returns : goal.returns
returns g c = λ t u v a b d.
    let test = is_item_in_part t u (option_map (λ n. n.now) c.args.self.now.under) v in
    sym (c.loop-step.invariant t u v a b d) ∙ ap (list_all (λ s. test (walk_step_data s).item.id)) (take_all c.loop-step.step-index c.args.steps.now (omega (arith, c.loop-step-test.false)))
