use Rattle.std.proofs.Common.{ap, ◌∙◌}
use Rattle.std.proofs.lemmas.Result.{IfOk-weaker}
use Rattle.crush_since.specs.ChangePart.{cut, part_rows, rows_under}
use Rattle.crush_since.proofs.changes.part_rows.Goals as goal

pub returns : goal.returns
unfolding part_rows
returns g c = IfOk-weaker c.part_of.result _ _ (λ kept is t u tables. is ∙ ap (λ l. cut c.args.part.now.down_to (rows_under c.args.part.now.under l)) (c.in_ok-rows.ensures t u tables)) c.part_of.ensures
