use Rattle.crush_edits.proofs.Order.{rows_are}
use Rattle.crush_edits.proofs.law.order.refusals_are_a_table.Goals as goal

pub returns : goal.returns
returns c = rows_are
