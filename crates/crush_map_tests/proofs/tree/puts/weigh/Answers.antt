use Rattle.std.proofs.Common.{sym}
use Rattle.crush_model.specs.Forest.{rows_of}
use Rattle.crush_model.proofs.Columns.{Lawful-set_weight}
use Rattle.crush_model.proofs.Stands.{stands_for_rows}
use Rattle.crush_map_tests.proofs.Passed.{passed}
use Rattle.crush_map_tests.proofs.tree.puts.weigh.Goals as goal

pub set_weight-requires : goal.set_weight-requires
set_weight-requires g c =
    let f = c.args.forest.now in
    let placed = sym c.if-not-is_held.ensures in
    record {
      placed = placed;
      fits = Lawful-set_weight (rows_of f) c.args.device c.args.weight c.recall_invariant.ensures.lawful placed (c.is_device_weight.ensures.0 c.if-not-is_device_weight.false)
          (passed _ (c.if-not-fits_weight.ensures (rows_of f) (stands_for_rows f c.recall_invariant.ensures)));
    }
