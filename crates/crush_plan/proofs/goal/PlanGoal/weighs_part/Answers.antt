use Rattle.std.proofs.Common.{sym, subst}
use Rattle.std.proofs.lemmas.Result.{IfOk-weaker}
use Rattle.crush_plan.specs.Draft.{MayWeigh}
use Rattle.crush_plan.proofs.goal.PlanGoal.weighs_part.Goals as goal

pub returns-in-ReweightSubtree : goal.returns-in-ReweightSubtree
returns-in-ReweightSubtree g c =
    IfOk-weaker c.has_part_below.result _ _ (λ is_allowed f so v d. subst (MayWeigh c.args.self.now v) (sym c.in-ReweightSubtree.is) (f so v d)) c.has_part_below.ensures
