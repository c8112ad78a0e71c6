use Rattle.std.proofs.Common.{sym}
use Rattle.crush_units.specs.declared.id.ItemId.TheVariants.{Bucket}
use Rattle.crush_model.specs.Forest.{rows_of}
use Rattle.crush_model.specs.Table.{row_of}
use Rattle.crush_model.proofs.Stands.{stands_for_rows}
use Rattle.crush_model.proofs.Swapped.{Lawful-swap}
use Rattle.crush_map_tests.proofs.Passed.{found, passed}
use Rattle.crush_map_tests.proofs.tree.puts.exchange.Goals as goal

pub swap-requires : goal.swap-requires
swap-requires g c =
    let f = c.args.forest.now in
    let t = rows_of f in
    let there_a = sym c.if-not-has_item.ensures in
    let there_b = sym c.if-not-has_item-2.ensures in
    let apart = sym c.if-are_nested.ensures in
    let r = found (row_of t (Bucket c.args.a)) there_a in
    let s = found (row_of t (Bucket c.args.b)) there_b in
    record {
      there_a = there_a;
      there_b = there_b;
      apart = apart;
      fits = Lawful-swap t c.args.a c.args.b r.0 s.0 c.recall_invariant.ensures.lawful r.1 s.1 apart (passed _ (c.if-not-fits_swap.ensures t (stands_for_rows f c.recall_invariant.ensures)));
    }
