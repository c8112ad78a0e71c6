use Rattle.std.proofs.Common.{rules, sym}
use Rattle.crush_model.specs.Forest.{rows_of}
use Rattle.crush_model.specs.Table.{row_of}
use Rattle.crush_model.proofs.Renamed.{Lawful-set_name}
use Rattle.crush_map_tests.proofs.Passed.{found}
use Rattle.crush_map_tests.proofs.hierarchy.puts.give_name.Goals as goal

pub replace_name-requires : goal.replace_name-requires
replace_name-requires c = record {
  there = search rules;
  fits =
      let t = rows_of c.args.hierarchy.now in
      let r = found (row_of t c.args.id.now) (sym c.if-not-has_item.ensures) in
      Lawful-set_name c.args.id.now c.args.name t r.0 c.recall_invariant.ensures.lawful r.1 c.has_name.ensures.name (sym c.if-has_name.ensures.named);
}
