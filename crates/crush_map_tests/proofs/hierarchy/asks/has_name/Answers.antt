use Rattle.std.proofs.Common.{ap, ◌∙◌}
use Rattle.std.specs.Prelude.{is_some}
use Rattle.crush_model.specs.Forest.{rows_of}
use Rattle.crush_model.specs.Table.{is_named}
use Rattle.crush_model.proofs.Stands.{stands_for_rows}
use Rattle.crush_map_tests.proofs.hierarchy.asks.has_name.Goals as goal

pub returns-clause-named : goal.returns-clause-named
returns-clause-named c =
    let f = c.args.hierarchy.now in
    c.is_some.ensures ∙ ap is_some (c.id_of.ensures (rows_of f) (stands_for_rows f c.recall_invariant.ensures)) ∙ ap (is_named (rows_of f)) c.as_str.ensures.value
