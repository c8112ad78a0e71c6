use Rattle.std.proofs.Common.{◌≡◌, ◌++◌, sym, subst, ◌∙◌}
use Rattle.crush_units.specs.Writes.{Writes}
use Rattle.crush_units.proofs.Appending.{nothing_is_less}
use Rattle.crush_edits.specs.EditText.{edit_text}
use Rattle.crush_history.proofs.Putting.{edit_is_some, stored}
use Rattle.crush_history.proofs.put.put_edit.Goals as goal

-- the text doesn't fit into the buffer: nothing is written
pub returns-then-is_err-clause-writes : goal.returns-then-is_err-clause-writes
returns-then-is_err-clause-writes g c = nothing_is_less _ _ (edit_is_some c.args.edit.now c.args.end.now)

pub returns-clause-writes : goal.returns-clause-writes
returns-clause-writes g c =
    let is = stored _ _ _ (edit_text c.args.edit.now ++ c.args.end.now) c.new-text.ensures (sym c.is_err.ensures.value ∙ c.if-is_err.false) c.write.ensures.writes in
    subst (Writes c.put.result (g.W.Write.contents c.args.out.now) (g.W.Write.contents c.put.new.out)) (c.as_bytes.ensures.value ∙ c.as_str.ensures.value ∙ is) c.put.ensures.writes
