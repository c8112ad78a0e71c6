use Rattle.std.proofs.Common.{subst}
use Rattle.crush_model.specs.Forest.{rows_of, IsSound}
use Rattle.crush_model.proofs.Stands.{stands_for_rows}
use Rattle.crush_run.proofs.Written.{put_of_writes}
use Rattle.crush_run.proofs.document.write_changed.Goals as goal

-- the other map represents the table of its rows
pub returns-clause-writes : goal.returns-clause-writes
returns-clause-writes g c = λ t stands.
    let f = c.args.old.now.forest in
    let sound : IsSound f = subst IsSound c.forest.ensures c.recall_invariant.ensures in
    put_of_writes _ _ _ _ (c.write_since_document.ensures.writes (rows_of f) t (stands_for_rows f sound) stands) c.write_since_document.ensures.none
