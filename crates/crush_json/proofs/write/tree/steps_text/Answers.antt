use Rattle.crush_json.proofs.Written.{line_written}
use Rattle.std.proofs.lemmas.Result.{IfOk-weaker}
use Rattle.crush_json.proofs.write.tree.steps_text.Goals as goal

pub returns : goal.returns
returns g c = IfOk-weaker c.line_of.result _ _ (λ text is t stands. line_written _ _ _ _ c.in_ok-document.ensures (c.in_ok-push_document.ensures t stands) is) c.line_of.ensures
