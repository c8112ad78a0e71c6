use Rattle.std.proofs.Common.{sym, ◌∙◌}
use Rattle.crush_model.specs.Forest.{rows_of}
use Rattle.crush_model.proofs.Stands.{stands_for_rows}
use Rattle.crush_apply.proofs.Done.{own_light}
use Rattle.crush_apply.proofs.place.kept_weight.Goals as goal

pub returns-in-Some-clause-light : goal.returns-in-Some-clause-light
returns-in-Some-clause-light g c =
    let f = c.args.hierarchy.now in
    own_light (rows_of f) c.args.device c.in-Some.own c.recall_invariant.ensures.lawful (sym c.in-Some.is ∙ c.weight.ensures (rows_of f) (stands_for_rows f c.recall_invariant.ensures))
