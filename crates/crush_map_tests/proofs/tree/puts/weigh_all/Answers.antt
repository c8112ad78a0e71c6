use Rattle.std.proofs.Common.{sym}
use Rattle.crush_model.specs.Forest.{rows_of}
use Rattle.crush_model.proofs.Columns.{Lawful-set_subtree}
use Rattle.crush_model.proofs.Stands.{stands_for_rows}
use Rattle.crush_map_tests.proofs.Passed.{passed}
use Rattle.crush_map_tests.proofs.tree.puts.weigh_all.Goals as goal

pub set_subtree-requires : goal.set_subtree-requires
set_subtree-requires g c =
    let f = c.args.forest.now in
    record {
      there = sym c.if-not-has_item.ensures;
      fits = Lawful-set_subtree (rows_of f) c.args.bucket c.args.weight c.recall_invariant.ensures.lawful (c.is_device_weight.ensures.0 c.if-not-is_device_weight.false)
          (passed _ (c.if-not-fits_subtree.ensures (rows_of f) (stands_for_rows f c.recall_invariant.ensures)));
    }
