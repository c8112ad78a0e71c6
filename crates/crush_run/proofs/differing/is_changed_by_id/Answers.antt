use Rattle.std.proofs.Common.{subst}
use Rattle.std.proofs.lemmas.Result.{IfOk-weaker}
use Rattle.crush_model.specs.Forest.{rows_of, IsSound}
use Rattle.crush_model.proofs.Stands.{stands_for_rows}
use Rattle.crush_run.proofs.differing.is_changed_by_id.Goals as goal

-- the other map represents the table of its rows
pub returns-in-Some : goal.returns-in-Some
returns-in-Some c =
    let f = c.args.old.now.forest in
    let sound : IsSound f = subst IsSound c.forest.ensures c.recall_invariant.ensures in
    IfOk-weaker c.is_part_changed.result _ _ (λ told is. λ t stands. rw c.in-Some.is (is (rows_of f) t (stands_for_rows f sound) stands)) c.is_part_changed.ensures

pub returns-in-None : goal.returns-in-None
returns-in-None c =
    let f = c.args.old.now.forest in
    let sound : IsSound f = subst IsSound c.forest.ensures c.recall_invariant.ensures in
    IfOk-weaker c.is_changed.result _ _ (λ told is. λ t stands. rw c.in-None.is (is (rows_of f) t (stands_for_rows f sound) stands)) c.is_changed.ensures
