use Rattle.std.proofs.Common.{rules, refl, sym, subst, ◌++◌, arith}
use Rattle.std.specs.Prelude.{None}
use Rattle.crush_model.specs.Forest.{rows_of}
use Rattle.crush_model.specs.ItemRows.{rows}
use Rattle.crush_model.specs.Items.{Items}
use Rattle.crush_model.specs.Lawful.{Lawful}
use Rattle.crush_model.proofs.Stands.{stands_for_rows}
use Rattle.crush_map_tests.proofs.Coming.{root_lawful}
use Rattle.crush_map_tests.proofs.hierarchy.comes.put_root.Goals as goal

pub add-requires : goal.add-requires
add-requires c = record {
  there = refl;
  sums = search rules;
  kind = search rules;
  fits =
      let f = c.args.hierarchy.now in
      let t = rows_of f in
      let st = stands_for_rows f c.recall_invariant.ensures in
      subst (λ (n : Items). Lawful (t ++ rows None n)) (sym c.in-Some.ensures)
      (root_lawful t c.recall_invariant.ensures.lawful c.args.id c.args.kind c.args.name (omega arith) (omega arith) (omega (arith, c.number.ensures.value, c.if-number-eq0.false)) (omega arith) c.has_name.ensures.name (sym (c.if-is_used.ensures t st)) (sym c.if-has_name.ensures.named)
      (omega (arith, c.counts.ensures.buckets t st, c.if-counts-ge-MOST_BUCKETS.false)));
}
