use Rattle.std.proofs.Common.{refl, ◌∙◌}
use Rattle.crush_reasons.proofs.Creating.{hints_all, hints_first, hints_more, hints_stand}
use Rattle.crush_reasons.proofs.created.push_edits_hints.Goals as goal

pub loop-edit-init : goal.loop-edit-init
loop-edit-init c = record { setting = refl; left = λ t st. hints_first c.args.map.now.setting t c.args.edits.now c.args.text.now.items c.args.map.now st }

pub loop-edit-preserved : goal.loop-edit-preserved
loop-edit-preserved c =
    let so_far = c.loop-edit.invariant in
    record {
      setting = c.in_ok-redo_edit.ensures.setting ∙ so_far.setting;
      left = λ t st.
          hints_more c.args.map.now.setting t c.args.edits.now c.loop-edit.edit-index c.edit-item.result _ _ _ _ _ c.loop-edit-test.true c.edit-item.is
          so_far.setting c.in_ok-push_edit_hints.ensures c.in_ok-redo_edit.ensures.stands (so_far.left t st);
    }

pub returns-clause-stands : goal.returns-clause-stands
returns-clause-stands c = λ t st. hints_stand _ t c.args.edits.now c.loop-edit.edit-index _ _ _ c.loop-edit-test.false (c.loop-edit.invariant.left t st)

pub returns-clause-hints : goal.returns-clause-hints
returns-clause-hints c = λ t st. hints_all _ t c.args.edits.now c.loop-edit.edit-index _ _ _ c.loop-edit-test.false (c.loop-edit.invariant.left t st)
