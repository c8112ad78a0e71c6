use Rattle.std.proofs.Common.{◌∙◌, ap}
use Rattle.std.proofs.lemmas.Result.{IfOk-weaker}
use Rattle.crush_since.specs.ChangePart.{cut}
use Rattle.crush_since.proofs.changes.part.part_of.Goals as goal

pub returns : goal.returns
returns g c = IfOk-weaker c.cut.result _ _ (λ kept is. is ∙ ap (cut c.args.part.now.down_to) c.in_ok-rows.ensures) c.cut.ensures
