use Rattle.std.proofs.Common.{subst}
use Rattle.std.proofs.lemmas.Result.{IfOk-weaker}
use Rattle.crush_model.specs.Forest.{rows_of, IsSound}
use Rattle.crush_model.proofs.Stands.{stands_for_rows}
use Rattle.crush_run.proofs.differing.is_named_changed.Goals as goal

-- the other map represents the table of its rows
pub returns : goal.returns
returns c =
    let f = c.args.old.now.map.forest in
    let sound : IsSound f = subst IsSound c.forest.ensures c.recall_invariant.ensures in
    IfOk-weaker c.is_changed_by_name.result _ _ (λ told is. λ t stands. rw (← c.name_of.ensures) (is (rows_of f) t (stands_for_rows f sound) stands)) c.is_changed_by_name.ensures
