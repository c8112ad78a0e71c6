use Rattle.std.proofs.Common.{true, ap, append_assoc, ◌∙◌, ◌++◌}
use Rattle.std.proofs.lemmas.Result.{on_ok_weaker}
use Rattle.crush_since.specs.Aside.{aside_text}
use Rattle.crush_since.specs.Stays.{line_texts}
use Rattle.crush_plan.specs.PlanText.{commented, stay_text}
use Rattle.crush_plan.proofs.text.push_tail.Goals as goal

pub returns : goal.returns
returns c =
    let plan = c.args.plan.now in
    let before = c.args.text.now.items in
    let ids = commented true (aside_text plan.aside) in
    let rest = c.in_ok-push_rest.ensures ∙ ap (λ l. before ++ stay_text (line_texts l)) c.as_slice.ensures.value in
    on_ok_weaker c.push_ids.result (λ e. e ∙ ap (λ l. l ++ ids) rest ∙ append_assoc before (stay_text (line_texts plan.rest.items)) ids) c.push_ids.ensures
