use Rattle.crush_json.proofs.PlanLaws.{plan_written}
use Rattle.std.proofs.lemmas.Result.{IfOk-weaker}
use Rattle.crush_json.proofs.write.plan.plan_text.Goals as goal

pub returns : goal.returns
returns c = IfOk-weaker c.line_of.result _ _ (λ text is. plan_written _ _ _ _ c.in_ok-document.ensures c.in_ok-push_document.ensures is) c.line_of.ensures
