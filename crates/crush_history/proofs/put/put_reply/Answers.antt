use Rattle.std.proofs.Common.{◌≡◌, ◌+◌, ◌<◌, ◌++◌, length, arith, sym, subst, ◌∙◌}
use Rattle.std.specs.Prelude.{codes}
use Rattle.crush_units.specs.Writes.{Writes}
use Rattle.crush_units.proofs.Appending.{nothing_is_less}
use Rattle.crush_history.specs.HistoryText.{reply_text}
use Rattle.crush_history.proofs.Putting.{stored}
use Rattle.crush_history.proofs.put.put_reply.Goals as goal

-- the text doesn't fit into the buffer: nothing is written
pub returns-then-is_err-clause-writes : goal.returns-then-is_err-clause-writes
returns-then-is_err-clause-writes g c = nothing_is_less _ _ (omega arith)

pub returns-clause-writes : goal.returns-clause-writes
returns-clause-writes g c =
    let is = stored _ _ _ (codes " = " ++ reply_text c.args.reply ++ codes "\n") c.new-text.ensures (sym c.is_err.ensures.value ∙ c.if-is_err.false) c.write.ensures.writes in
    subst (Writes c.put.result (g.W.Write.contents c.args.out.now) (g.W.Write.contents c.put.new.out)) (c.as_bytes.ensures.value ∙ c.as_str.ensures.value ∙ is) c.put.ensures.writes
