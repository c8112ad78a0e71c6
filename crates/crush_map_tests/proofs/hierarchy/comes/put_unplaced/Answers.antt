use Rattle.std.proofs.Common.{rules, refl, sym, subst, ◌++◌, ◌∙◌, arith}
use Rattle.std.specs.Prelude.{None}
use Rattle.crush_model.specs.Forest.{rows_of}
use Rattle.crush_model.specs.ItemRows.{rows}
use Rattle.crush_model.specs.Items.{Items, device, none}
use Rattle.crush_model.specs.Lawful.{Lawful}
use Rattle.crush_model.proofs.Stands.{stands_for_rows}
use Rattle.crush_map_tests.proofs.Coming.{unplaced_lawful}
use Rattle.crush_map_tests.proofs.hierarchy.comes.put_unplaced.Goals as goal

pub add-requires : goal.add-requires
add-requires c = record {
  there = refl;
  sums = search rules;
  kind = search rules;
  fits =
      let f = c.args.hierarchy.now in
      let t = rows_of f in
      let st = stands_for_rows f c.recall_invariant.ensures in
      let few = c.counts.ensures.devices t st in
      subst (λ (n : Items). Lawful (t ++ rows None n)) (sym (c.device-node.ensures ∙ (λ i. device (record { id = c.args.id; name = c.args.name; weight = c.from_units.ensures i; class = None }) none)))
      (unplaced_lawful t c.recall_invariant.ensures.lawful c.args.id c.args.name (omega arith) c.has_name.ensures.name (sym c.if-has_item.ensures) (sym c.if-has_name.ensures.named) (omega (arith, few, c.if-counts-ge-MOST_DEVICES.false)));
}
