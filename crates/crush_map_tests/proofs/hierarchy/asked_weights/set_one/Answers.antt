use Rattle.std.proofs.Common.{rules, sym}
use Rattle.crush_model.specs.Forest.{rows_of}
use Rattle.crush_model.proofs.Columns.{Lawful-set_weight}
use Rattle.crush_model.proofs.Stands.{stands_for_rows}
use Rattle.crush_map_tests.proofs.Passed.{passed}
use Rattle.crush_map_tests.proofs.hierarchy.asked_weights.set_one.Goals as goal

pub fits_weight_by-requires : goal.fits_weight_by-requires
fits_weight_by-requires c = record {
  guides = search rules;
  can = search rules;
  total =
      let f = c.args.forest.now in
      c.total-total.ensures (rows_of f) (stands_for_rows f c.recall_invariant.ensures);
}

pub set_weight_by-requires : goal.set_weight_by-requires
set_weight_by-requires c = record {
  guides = search rules;
  can = record {
    placed = search rules;
    fits =
        let f = c.args.forest.now in
        Lawful-set_weight (rows_of f) c.args.device c.args.weight c.recall_invariant.ensures.lawful (sym c.if-not-is_held.ensures) (c.is_device_weight.ensures.0 c.if-not-is_device_weight.false)
        (passed _ (c.if-not-fits_weight_by.ensures (rows_of f) (stands_for_rows f c.recall_invariant.ensures)));
  };
}
