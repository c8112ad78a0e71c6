use Rattle.std.proofs.Common.{subst}
use Rattle.std.proofs.lemmas.Result.{IfOk-weaker}
use Rattle.crush_model.specs.Forest.{rows_of, IsSound}
use Rattle.crush_model.proofs.Stands.{stands_for_rows}
use Rattle.crush_run.proofs.planned.plan_if_requested.Goals as goal

-- the wanted map represents the table of its rows
pub returns-in-To : goal.returns-in-To
returns-in-To c =
    let f = c.in-To.target.map.forest in
    let sound : IsSound f = subst IsSound c.forest.ensures c.recall_invariant.ensures in
    IfOk-weaker c.find_plan.result _ _ (λ plan is. λ t stands. rw (c.in-To.is, ← c.name_of-under.ensures) (is t (rows_of f) stands (stands_for_rows f sound))) c.find_plan.ensures
