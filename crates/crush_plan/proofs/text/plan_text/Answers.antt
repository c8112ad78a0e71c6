use Rattle.std.proofs.Common.{List, ℕ, ap, ◌∙◌, ◌++◌, length}
use Rattle.std.specs.Prelude.{flat_map}
use Rattle.crush_history.specs.Ceph.{ceph_heading}
use Rattle.crush_since.proofs.PartLaws.{three_sections}
use Rattle.crush_plan.specs.Plan.{plan_data}
use Rattle.crush_plan.specs.PlanText.{plan_text, script_line, tail_text}
use Rattle.crush_plan.proofs.text.plan_text.Goals as goal

pub returns : goal.returns
unfolding plan_text
returns c =
    let plan = c.args.plan.now in
    let heading = ceph_heading (length plan.edits.items) in
    let lines = flat_map script_line plan.edits.items in
    let tail = tail_text (plan_data plan) in
    three_sections c.new-text.result.items _ _ _ heading lines tail
    (c.in_ok-push_ceph_heading.ensures ∙ ap (λ es. c.new-text.result.items ++ ceph_heading (length es)) c.as_slice-edits.ensures.value)
    (c.in_ok-push_edits.ensures ∙ ap (λ es. c.push_ceph_heading.new.text.items ++ flat_map script_line es) c.as_slice-edits.ensures.value)
    c.in_ok-push_tail.ensures
    ∙ ap (λ (l : List ℕ). l ++ (heading ++ lines ++ tail)) c.new-text.ensures.items
