use Rattle.std.proofs.Common.{rules}
use Rattle.crush_model.specs.Forest.{rows_of}
use Rattle.crush_model.proofs.Columns.{Lawful-set_subtree}
use Rattle.crush_model.proofs.Stands.{stands_for_rows}
use Rattle.crush_map_tests.proofs.Passed.{passed}
use Rattle.crush_map_tests.proofs.hierarchy.asked_weights.set_all.Goals as goal

pub fits_subtree_by-requires : goal.fits_subtree_by-requires
fits_subtree_by-requires c = record {
  guides = search rules;
  can = search rules;
  total =
      let f = c.args.forest.now in
      c.total-total.ensures (rows_of f) (stands_for_rows f c.recall_invariant.ensures);
}

pub set_subtree_by-requires : goal.set_subtree_by-requires
set_subtree_by-requires c = record {
  guides = search rules;
  can = record {
    there = search rules;
    fits =
        let f = c.args.forest.now in
        Lawful-set_subtree (rows_of f) c.args.bucket c.args.weight c.recall_invariant.ensures.lawful (c.is_device_weight.ensures.0 c.if-not-is_device_weight.false)
        (passed _ (c.if-not-fits_subtree_by.ensures (rows_of f) (stands_for_rows f c.recall_invariant.ensures)));
  };
}
