use Rattle.std.proofs.Common.{rules, sym}
use Rattle.crush_model.specs.Forest.{rows_of, all_items}
use Rattle.crush_model.proofs.Stands.{stands_for_rows}
use Rattle.crush_map_tests.proofs.Moving.{left_there, put_lawful}
use Rattle.crush_map_tests.proofs.hierarchy.puts.put_device.Goals as goal

pub put-requires : goal.put-requires
put-requires c = record {
  there = search rules;
  place = left_there (rows_of c.make_room.new.hierarchy) c.args.device c.args.bucket (c.make_room.ensures.there c.if-not-make_room.false);
  room = search rules;
  fits =
      let f = c.make_room.new.hierarchy in
      let t = rows_of f in
      let st = stands_for_rows f c.recall_invariant.ensures in
      put_lawful t c.args.device c.args.bucket c.args.weight (all_items f) c.recall_invariant.ensures.lawful (sym c.if-not-has_item.ensures) (c.make_room.ensures.there c.if-not-make_room.false) (c.is_device_weight.ensures.0 c.if-not-is_device_weight.false)
      c.recall_part.ensures.one (c.recall_part.ensures.rows t st) (c.if-not-fits_move.ensures t st);
}
