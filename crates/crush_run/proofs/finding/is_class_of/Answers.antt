use Rattle.std.proofs.Common.{subst}
use Rattle.crush_model.specs.Forest.{rows_of, IsSound}
use Rattle.crush_model.proofs.Stands.{stands_for_rows}
use Rattle.crush_run.proofs.finding.is_class_of.Goals as goal

pub returns-in-Some : goal.returns-in-Some
returns-in-Some c =
    let f = c.args.map.now.forest in
    rw c.in-Some.is (c.has_class.ensures (rows_of f) (stands_for_rows f (subst IsSound c.forest.ensures c.recall_invariant.ensures)))
