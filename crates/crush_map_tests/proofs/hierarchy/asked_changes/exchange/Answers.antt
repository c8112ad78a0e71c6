use Rattle.std.proofs.Common.{rules, sym}
use Rattle.crush_units.specs.declared.id.ItemId.TheVariants.{Bucket}
use Rattle.crush_model.specs.Forest.{rows_of}
use Rattle.crush_model.specs.Table.{row_of}
use Rattle.crush_model.proofs.Stands.{stands_for_rows}
use Rattle.crush_model.proofs.Swapped.{Lawful-swap}
use Rattle.crush_map_tests.proofs.Passed.{found, passed}
use Rattle.crush_map_tests.proofs.hierarchy.asked_changes.exchange.Goals as goal

pub swap_by-requires : goal.swap_by-requires
swap_by-requires c = record {
  guides = search rules;
  can = record {
    there_a = search rules;
    there_b = search rules;
    apart = search rules;
    fits =
        let f = c.args.forest.now in
        let t = rows_of f in
        let r = found (row_of t (Bucket c.args.a)) (sym c.if-not-has_item.ensures) in
        let s = found (row_of t (Bucket c.args.b)) (sym c.if-not-has_item-2.ensures) in
        Lawful-swap t c.args.a c.args.b r.0 s.0 c.recall_invariant.ensures.lawful r.1 s.1 (sym c.if-are_nested.ensures) (passed _ (c.if-not-fits_swap_by.ensures t (stands_for_rows f c.recall_invariant.ensures)));
  };
}
