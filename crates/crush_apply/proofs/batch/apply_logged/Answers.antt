use Rattle.std.proofs.Common.{◌≡◌, ℕ, ◌<◌, true, subst, sym, arith}
use Rattle.std.specs.Prelude.{nat_lt}
use Rattle.std.proofs.lemmas.Bool.Decides.{nat_tests}
use Rattle.crush_apply.specs.UndoLog.{RollsBack}
use Rattle.crush_apply.proofs.Answered.{makes_passed}
use Rattle.crush_apply.proofs.StillFits.{fits_answered}
use Rattle.crush_apply.proofs.RolledBack.{noted_last}
use Rattle.crush_apply.proofs.batch.apply_logged.Goals as goal

tested : (a b : ℕ) → a < b → nat_lt a b ≡ true
tested a b less = grind (arith, nat_tests)

pub returns-in_err-done-clause-refused : goal.returns-in_err-done-clause-refused
returns-in_err-done-clause-refused g c = (makes_passed _ _ _ _ _ c.from_residual.ensures.1 c.in_err-done.ensures.answers.makes).refused

pub returns-in_err-done-clause-unchanged : goal.returns-in_err-done-clause-unchanged
returns-in_err-done-clause-unchanged g c = (makes_passed _ _ _ _ _ c.from_residual.ensures.1 c.in_err-done.ensures.answers.makes).unchanged

pub returns-in_err-done-clause-fits : goal.returns-in_err-done-clause-fits
returns-in_err-done-clause-fits g c = fits_answered c.args.setting.now _ _ c.args.requested.now _ c.recall_invariant.ensures c.recall_forms.ensures c.requires.fits c.make.ensures.answers.makes.done c.make.ensures.answers.makes.unchanged

pub returns-clause-done : goal.returns-clause-done
returns-clause-done g c = c.in_ok-done.ensures.answers.makes.done

pub returns-clause-logged : goal.returns-clause-logged
returns-clause-logged g c = λ room f back.
    subst (λ l. RollsBack l c.make.new.hierarchy f) (sym (c.log_undo.ensures.items room)) (noted_last c.args.log.now.items c.in_ok-done.undo _ c.args.hierarchy.now f (c.in_ok-done.ensures.answers.back (tested c.len.result c.capacity.result (omega (arith, room, c.len.ensures, c.capacity.ensures)))) back)

pub returns-clause-fits : goal.returns-clause-fits
returns-clause-fits g c = fits_answered c.args.setting.now _ _ c.args.requested.now _ c.recall_invariant.ensures c.recall_forms.ensures c.requires.fits c.make.ensures.answers.makes.done c.make.ensures.answers.makes.unchanged
