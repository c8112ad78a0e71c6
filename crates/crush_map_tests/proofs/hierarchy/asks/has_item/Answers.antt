use Rattle.std.proofs.Common.{ap, sym, ◌∙◌}
use Rattle.std.specs.Prelude.{is_some}
use Rattle.crush_model.specs.Forest.{rows_of}
use Rattle.crush_model.specs.Table.{row_of}
use Rattle.crush_model.proofs.Stands.{stands_for_rows}
use Rattle.crush_nodes.specs.SeenView.{view_data}
use Rattle.crush_nodes.specs.Views.{row_view}
use Rattle.crush_nodes.proofs.Options.{is_some-map}
use Rattle.crush_map_tests.proofs.hierarchy.asks.has_item.Goals as goal

pub returns : goal.returns
returns c =
    let f = c.args.hierarchy.now in
    let t = rows_of f in
    c.is_some.ensures ∙ sym (is_some-map view_data c.find.result) ∙ ap is_some (c.find.ensures t (stands_for_rows f c.recall_invariant.ensures)) ∙ is_some-map (row_view t) (row_of t c.args.id.now)
