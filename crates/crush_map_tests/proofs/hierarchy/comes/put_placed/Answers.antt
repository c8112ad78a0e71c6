use Rattle.std.proofs.Common.{rules, sym, subst, ◌++◌}
use Rattle.std.specs.Prelude.{Some}
use Rattle.crush_model.specs.Forest.{rows_of}
use Rattle.crush_model.specs.ItemRows.{rows}
use Rattle.crush_model.specs.Items.{Items}
use Rattle.crush_model.specs.Lawful.{Lawful}
use Rattle.crush_map_tests.proofs.hierarchy.comes.put_placed.Goals as goal

pub add-requires : goal.add-requires
add-requires c = record {
  there = c.can_come.ensures.there c.if-not-can_come.false;
  sums = search rules;
  kind = search rules;
  fits = subst (λ (n : Items). Lawful (rows_of c.args.hierarchy.now ++ rows (Some c.args.bucket) n)) (sym c.device-node.ensures) (c.can_come.ensures.fits c.if-not-can_come.false);
}
