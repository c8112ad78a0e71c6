use Rattle.std.proofs.Common.{rules}
use Rattle.crush_model.specs.Forest.{rows_of}
use Rattle.crush_model.proofs.Stands.{stands_for_rows}
use Rattle.crush_map_tests.proofs.hierarchy.asked_changes.weigh_all.Goals as goal

pub replace_subtree_by-requires : goal.replace_subtree_by-requires
replace_subtree_by-requires c = record {
  guides = search rules;
  can = search rules;
  total =
      let f = c.args.forest.now in
      c.total-total.ensures (rows_of f) (stands_for_rows f c.recall_invariant.ensures);
}
