use Rattle.std.proofs.Common.{List, ℕ, ap, ◌∙◌, ◌++◌}
use Rattle.crush_edits.specs.declared.edit.Edit.{Edit}
use Rattle.crush_edits.specs.Setting.{SettingData}
use Rattle.crush_ceph.specs.CephText.{ceph_text}
use Rattle.crush_plan.specs.Plan.{plan_data}
use Rattle.crush_plan.specs.PlanText.{ceph_plan_text, tail_text}
use Rattle.crush_plan.proofs.text.ceph_plan_text.Goals as goal

pub returns : goal.returns
unfolding ceph_plan_text
returns c = λ t st.
    let copy = c.in_ok-try_copy.ensures in
    let tail = tail_text (plan_data c.args.plan.now) in
    c.in_ok-push_tail.ensures
    ∙ ap (λ (l : List ℕ). l ++ tail)
    (c.in_ok-text.ensures t (copy.stands t st)
    ∙ ap (λ (s : SettingData). ceph_text s t c.as_slice.result.now) copy.setting
    ∙ ap (λ (es : List Edit). ceph_text c.args.map.now.setting t es) c.as_slice.ensures.value)
