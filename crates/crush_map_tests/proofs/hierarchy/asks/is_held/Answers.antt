use Rattle.std.proofs.Common.{ap, ◌∙◌}
use Rattle.std.specs.Prelude.{is_some}
use Rattle.crush_model.specs.Forest.{rows_of}
use Rattle.crush_model.proofs.Stands.{stands_for_rows}
use Rattle.crush_map_tests.proofs.hierarchy.asks.is_held.Goals as goal

pub returns : goal.returns
returns c =
    let f = c.args.hierarchy.now in
    c.is_some.ensures ∙ ap is_some (c.parent.ensures (rows_of f) (stands_for_rows f c.recall_invariant.ensures))
