use Rattle.std.proofs.Common.{◌∙◌, ap, sym, subst}
use Rattle.std.proofs.lemmas.Result.{IfOk-weaker}
use Rattle.crush_model.specs.Table.{id_named}
use Rattle.crush_plan.specs.Draft.{MayWeighBelow}
use Rattle.crush_plan.proofs.goal.PlanGoal.has_part_below.Goals as goal

pub returns-in-Some : goal.returns-in-Some
returns-in-Some g c =
    IfOk-weaker c.has_part_below_item.result _ _ (λ is_allowed f so v d. subst (MayWeighBelow c.args.self.now v) (sym c.in-Some.is ∙ c.locate.ensures v d ∙ ap (id_named v) c.as_str.ensures.value) (f so v d)) c.has_part_below_item.ensures

pub returns-in-None : goal.returns-in-None
returns-in-None g c = λ so v d. subst (MayWeighBelow c.args.self.now v) (sym c.in-None.is ∙ c.locate.ensures v d ∙ ap (id_named v) c.as_str.ensures.value) (λ t u a b. tt)
