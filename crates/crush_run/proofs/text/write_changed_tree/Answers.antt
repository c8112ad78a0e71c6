use Rattle.std.proofs.Common.{ap, subst}
use Rattle.crush_model.specs.Forest.{rows_of, IsSound}
use Rattle.crush_model.proofs.Stands.{stands_for_rows}
use Rattle.crush_run.proofs.Written.{put_of_writes}
use Rattle.crush_run.proofs.text.write_changed_tree.Goals as goal

-- the old map represents the table of its rows
pub returns-in-Some-clause-writes : goal.returns-in-Some-clause-writes
returns-in-Some-clause-writes g c = λ t stands.
    let f = c.args.old.now.map.forest in
    let sound : IsSound f = subst IsSound c.forest.ensures c.recall_invariant.ensures in
    rw (c.in-Some.is, ← c.part_of-part.ensures t stands, ← c.as_str.ensures.value)
    (put_of_writes _ _ _ _ (c.write_changes_of_class.ensures.writes (rows_of f) t (stands_for_rows f sound) stands) c.write_changes_of_class.ensures.none)

pub returns-in-None-clause-writes : goal.returns-in-None-clause-writes
returns-in-None-clause-writes g c = λ t stands.
    let f = c.args.old.now.map.forest in
    let sound : IsSound f = subst IsSound c.forest.ensures c.recall_invariant.ensures in
    rw (c.in-None.is, ← c.part_of-part.ensures t stands) (put_of_writes _ _ _ _ (c.write_changes.ensures.writes (rows_of f) t (stands_for_rows f sound) stands) c.write_changes.ensures.none)
