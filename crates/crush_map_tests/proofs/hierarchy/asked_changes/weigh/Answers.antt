use Rattle.std.proofs.Common.{rules}
use Rattle.crush_model.specs.Forest.{rows_of}
use Rattle.crush_model.proofs.Stands.{stands_for_rows}
use Rattle.crush_map_tests.proofs.hierarchy.asked_changes.weigh.Goals as goal

pub replace_weight_by-requires : goal.replace_weight_by-requires
replace_weight_by-requires c = record {
  guides = search rules;
  can = search rules;
  total =
      let f = c.args.forest.now in
      c.total-total.ensures (rows_of f) (stands_for_rows f c.recall_invariant.ensures);
}
