use Rattle.std.proofs.Common.{◌∙◌, ap, refl, subst, sym}
use Rattle.std.proofs.lemmas.List.{take_all}
use Rattle.crush_model.specs.Stands.{Stands}
use Rattle.crush_reasons.specs.Replay.{table_after_edits}
use Rattle.crush_reasons.proofs.Replays.{made-more, none-made}
use Rattle.crush_reasons.proofs.replay.make_edits.Goals as goal

pub loop-edit-init : goal.loop-edit-init
loop-edit-init c = record { setting = refl; stands = λ t st. subst (Stands c.args.map.now.forest) (none-made c.args.map.now.setting t) st }

pub loop-edit-preserved : goal.loop-edit-preserved
loop-edit-preserved c =
    let old = c.args.map.now in
    let edits = c.args.edits.now in
    let so_far = c.loop-edit.invariant in
    record {
      setting = c.in_ok-redo_edit.ensures.setting ∙ so_far.setting;
      stands = λ t st.
          subst (Stands c.redo_edit.new.map.forest) (sym (made-more old.setting c.loop-edit.map.setting t edits c.loop-edit.edit-index c.edit-item.result c.loop-edit-test.true c.edit-item.is so_far.setting))
          (c.in_ok-redo_edit.ensures.stands _ (so_far.stands t st));
    }

pub returns-clause-stands : goal.returns-clause-stands
returns-clause-stands c = λ t st.
    let old = c.args.map.now in
    subst (Stands c.loop-edit.map.forest) (ap (table_after_edits old.setting t) (take_all c.loop-edit.edit-index c.args.edits.now c.loop-edit-test.false)) (c.loop-edit.invariant.stands t st)
