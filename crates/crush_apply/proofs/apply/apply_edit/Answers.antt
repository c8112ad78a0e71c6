use Rattle.std.proofs.Common.{refl, sym, ◌∙◌}
use Rattle.crush_apply.proofs.Answered.{when_is}
use Rattle.crush_apply.proofs.StillFits.{fits_answered}
use Rattle.crush_apply.proofs.RolledBack.{lacks_alone}
use Rattle.crush_apply.proofs.apply.apply_edit.Goals as goal

pub returns-clause-done : goal.returns-clause-done
returns-clause-done g c = (when_is _ _ _ _ _ c.done_alone.ensures (c.make.ensures.answers.exact refl)).done

pub returns-clause-refused : goal.returns-clause-refused
returns-clause-refused g c = (when_is _ _ _ _ _ c.done_alone.ensures (c.make.ensures.answers.exact refl)).refused

pub returns-clause-change : goal.returns-clause-change
returns-clause-change g c = (when_is _ _ _ _ _ c.done_alone.ensures (c.make.ensures.answers.exact refl)).change

pub returns-clause-memory : goal.returns-clause-memory
returns-clause-memory g c = λ is. c.make.ensures.answers.memory refl (lacks_alone c.make.result (sym c.done_alone.ensures ∙ is))

pub returns-clause-unchanged : goal.returns-clause-unchanged
returns-clause-unchanged g c = (when_is _ _ _ _ _ c.done_alone.ensures (c.make.ensures.answers.exact refl)).unchanged

pub returns-clause-still : goal.returns-clause-still
returns-clause-still g c = (when_is _ _ _ _ _ c.done_alone.ensures (c.make.ensures.answers.exact refl)).still

pub returns-clause-fits : goal.returns-clause-fits
returns-clause-fits g c =
    let told = when_is _ _ _ _ _ c.done_alone.ensures (c.make.ensures.answers.exact refl) in
    fits_answered c.args.setting.now c.args.hierarchy.now c.make.new.hierarchy c.args.requested.now c.done_alone.result c.recall_invariant.ensures c.recall_forms.ensures c.requires.fits told.done told.unchanged
