use Rattle.std.proofs.Common.{◌+◌, ◌∷◌, ◌∙◌, ap, drop, false, subst, sym}
use Rattle.std.proofs.lemmas.List.{drop_all, drop_more}
use Rattle.crush_ceph.proofs.Stepping.{AreSteps, all_steps, next_step, none_yet}
use Rattle.crush_ceph.proofs.steps.ceph_steps.Goals as goal

pub loop-edit-init : goal.loop-edit-init
loop-edit-init c =
    let map = c.args.map.now in
    let edits = c.args.edits.now in
    subst (λ steps. AreSteps map map false steps edits edits) (sym c.new-steps.ensures.items) (none_yet map edits)

pub loop-edit-preserved : goal.loop-edit-preserved
loop-edit-preserved c =
    let edits = c.args.edits.now in
    let i = c.loop-edit.edit-index in
    let x = c.edit-item.result in
    let step = c.in_ok-leaves.ensures in
    next_step _ _ _ _ _ _ _ x (drop (i + 1) edits) (drop i edits) edits (drop_more edits i x c.loop-edit-test.true ∙ ap (λ y. y ∷ drop (i + 1) edits) (sym c.edit-item.is))
    step.setting step.stands step.leaves step.steps c.loop-edit.invariant

pub returns : goal.returns
returns c = λ t st.
    let edits = c.args.edits.now in
    let old = c.args.map.now in
    let so_far = subst (λ left. AreSteps old c.loop-edit.map c.loop-edit.leaves c.loop-edit.steps.items left edits) (drop_all c.loop-edit.edit-index edits c.loop-edit-test.false) c.loop-edit.invariant in
    all_steps old c.loop-edit.map c.loop-edit.leaves c.loop-edit.steps.items _ edits c.in_ok-push_reweight_if.ensures so_far t st
