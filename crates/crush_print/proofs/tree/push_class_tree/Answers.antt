use Rattle.std.proofs.Common.{◌≡◌, ◌∙◌, ◌++◌, ap, map, subst, sym}
use Rattle.std.specs.Prelude.{OnOk, flat_map}
use Rattle.crush_print.specs.ClassItems.{step_weight}
use Rattle.crush_print.specs.ClassTree.{class_steps, class_tree_text, weighed}
use Rattle.crush_print.specs.TreeLine.{line_data}
use Rattle.crush_print.specs.TreePart.{cut, part_steps, steps_under}
use Rattle.crush_print.specs.TreeText.{steps_text}
use Rattle.crush_print.specs.WalkStep.{walk_step_data}
use Rattle.crush_print.proofs.tree.push_class_tree.Goals as goal

pub returns : goal.returns
unfolding class_steps class_tree_text part_steps
returns g c = λ t stands.
    let k = c.args.class.now in
    let steps = c.in_ok-steps.ensures t stands in
    let seen : map walk_step_data c.as_slice.result.now ≡ steps_under c.args.part.under t = ap (map walk_step_data) c.as_slice.ensures.value ∙ steps in
    let weights : c.as_slice-2.result.now ≡ map (step_weight t k) (map walk_step_data c.as_slice.result.now) = c.as_slice-2.ensures.value ∙ c.in_ok-weights.ensures t stands ∙ ap (map (step_weight t k)) (sym seen) in
    let lines : map line_data c.as_slice-3.result.now ≡ flat_map (λ s. weighed (step_weight t k s) s) (cut c.args.part.down_to (steps_under c.args.part.under t)) =
    ap (map line_data) c.as_slice-3.ensures.value ∙ c.in_ok-lines.ensures (step_weight t k) weights ∙ ap (λ l. flat_map (λ s. weighed (step_weight t k s) s) (cut c.args.part.down_to l)) seen in
    let shown = flat_map (λ s. weighed (step_weight t k s) s) (cut c.args.part.down_to (steps_under c.args.part.under t)) in
    subst (λ s. OnOk c.push_text.result (c.push_text.new.out.items ≡ c.args.out.now.items ++ steps_text s shown)) c.setting.ensures
    (subst (λ l. OnOk c.push_text.result (c.push_text.new.out.items ≡ c.args.out.now.items ++ steps_text c.setting.result.now l)) lines c.push_text.ensures)
