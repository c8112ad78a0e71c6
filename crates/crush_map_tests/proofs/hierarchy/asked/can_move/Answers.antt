use Rattle.std.proofs.Common.{rules}
use Rattle.crush_model.specs.Forest.{rows_of}
use Rattle.crush_model.proofs.Stands.{stands_for_rows}
use Rattle.crush_map_tests.proofs.hierarchy.asked.can_move.Goals as goal

pub fits_move_by-requires : goal.fits_move_by-requires
fits_move_by-requires c = record {
  guides = search rules;
  absent = search rules;
  place = search rules;
  apart = search rules;
  total =
      let f = c.args.guide.now.forest.now in
      c.total-total.ensures (rows_of f) (stands_for_rows f c.recall_invariant.ensures);
}
