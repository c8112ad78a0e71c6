use Rattle.std.proofs.Common.{ap, sym, ◌∙◌}
use Rattle.std.specs.Prelude.{Some}
use Rattle.crush_model.specs.Forest.{rows_of}
use Rattle.crush_model.proofs.Stands.{stands_for_rows}
use Rattle.crush_map_tests.proofs.Guiding.{stands_under}
use Rattle.crush_map_tests.proofs.hierarchy.asked.position_in.Goals as goal

pub returns : goal.returns
returns c =
    let f = c.args.forest.now in
    let t = rows_of f in
    ap Some c.place_under-place.ensures ∙ stands_under t c.args.id.now c.parent.result (sym c.if-not-has_item.ensures) (c.parent.ensures t (stands_for_rows f c.recall_invariant.ensures))
