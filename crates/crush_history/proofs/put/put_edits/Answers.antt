use Rattle.std.proofs.Common.{◌++◌, List, ℕ, subst}
use Rattle.std.specs.Prelude.{codes}
use Rattle.std.proofs.lemmas.Result.{err_from_is_err_and}
use Rattle.crush_units.specs.Writes.{AppendsLess}
use Rattle.crush_units.proofs.Appending.{parts_stop}
use Rattle.crush_edits.specs.declared.edit.Edit.{Edit}
use Rattle.crush_edits.specs.EditText.{edit_text}
use Rattle.crush_history.proofs.put.put_edits.Goals as goal

edit_of_batch : Edit → List ℕ
edit_of_batch e = edit_text e ++ codes " ; "

pub returns-in_err-put_edit-clause-writes : goal.returns-in_err-put_edit-clause-writes
unfolding edit_of_batch
returns-in_err-put_edit-clause-writes g c =
    let p = err_from_is_err_and c.from_residual.result c.from_residual.ensures.1 in
    let front = subst (λ (x : Edit). AppendsLess (g.W.Write.contents c.loop-edit.out) (g.W.Write.contents c.put_edit.new.out) (edit_of_batch x)) c.edit-item.is c.in_err-put_edit.ensures.writes in
    rw p.1 (parts_stop edit_of_batch _ _ _ c.args.edits.now c.loop-edit.edit-index c.edit-item.result c.loop-edit-test.true c.loop-edit.invariant front)
