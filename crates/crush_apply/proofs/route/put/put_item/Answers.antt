use Rattle.std.proofs.Common.{rules, ◌++◌, List}
use Rattle.std.specs.Prelude.{Some}
use Rattle.crush_units.specs.declared.id.ItemId.TheVariants.{Bucket}
use Rattle.crush_model.specs.Columns.{table_without}
use Rattle.crush_model.specs.Forest.{rows_of, all_items}
use Rattle.crush_model.specs.ItemRows.{rows}
use Rattle.crush_model.specs.Stands.{Stands}
use Rattle.crush_model.specs.Table.{Row}
use Rattle.crush_model.proofs.Stands.{stands_for_rows, same_stands}
use Rattle.crush_nodes.specs.Ops.{part_of}
use Rattle.crush_edits.specs.LawRoute.{rows_made}
use Rattle.crush_edits.specs.Put.{put}
use Rattle.crush_edits.proofs.Edits.{some_row}
use Rattle.crush_apply.proofs.Steps.{few_new, still_there, next_there, put_lawful, item_form, item_same, stands_there, stands_left, placed_lawful}
use Rattle.crush_apply.proofs.route.put.put_item.Goals as goal

pub make_room-requires-clause-counts : goal.make_room-requires-clause-counts
make_room-requires-clause-counts g c = λ t st.
    let row = some_row t c.args.id (c.requires.moves t st).there in
    few_new t st.lawful c.args.id c.args.to.now (c.requires.moves t st).leads row.0 row.0.weight row.1 (c.requires.can t row.0 st row.1)

pub recall_part-requires : goal.recall_part-requires
recall_part-requires g c =
    let f = c.args.hierarchy.now in
    let t : List Row = rows_of f in
    let st : Stands f t = stands_for_rows f c.recall_invariant.ensures in
    let row = some_row t c.args.id (c.requires.moves t st).there in
    stands_there c.make_room.new.hierarchy (t ++ rows_made t c.args.to.now.stops) c.args.id (c.in_ok-bucket.ensures.stands t st)
    (still_there t st.lawful c.args.id c.args.to.now (c.requires.moves t st).leads row.0 row.0.weight row.1 (c.requires.can t row.0 st row.1))

pub move_into-old_stand-requires : goal.move_into-old_stand-requires
move_into-old_stand-requires g c =
    let f = c.args.hierarchy.now in
    let t : List Row = rows_of f in
    let st : Stands f t = stands_for_rows f c.recall_invariant.ensures in
    let ps = c.args.to.now.stops in
    let i = c.args.id in
    let row = some_row t i (c.requires.moves t st).there in
    let leads = (c.requires.moves t st).leads in
    let can = c.requires.can t row.0 st row.1 in
    let h = c.make_room.new.hierarchy in
    let b = c.in_ok-bucket.bucket in
    let next = c.in_ok-bucket.ensures.next t st in
    let mid : Stands h (t ++ rows_made t ps) = c.in_ok-bucket.ensures.stands t st in
    let n = part_of i (all_items h) in
    record {
      there = stands_there h (t ++ rows_made t ps) i mid (still_there t st.lawful i c.args.to.now leads row.0 row.0.weight row.1 can);
      place = stands_left h (t ++ rows_made t ps) i (Bucket b) mid (next_there t st.lawful i c.args.to.now leads row.0 row.0.weight row.1 can b next);
      room = search rules;
      fits =
          placed_lawful h (t ++ rows_made t ps) (put t row.0 ps) (rows (Some b) n) i mid
          (item_same t st.lawful i c.args.to.now leads row.0 row.1 can n b next c.recall_part.ensures.one (c.recall_part.ensures.rows (t ++ rows_made t ps) mid))
          (put_lawful t st.lawful i c.args.to.now leads row.0 row.0.weight row.1 can (item_form t st.lawful i c.args.to.now leads row.0 row.1 can));
    }

pub returns-clause-stands : goal.returns-clause-stands
returns-clause-stands g c = λ t r st found.
    let ps = c.args.to.now.stops in
    let h = c.make_room.new.hierarchy in
    let b = c.in_ok-bucket.bucket in
    let n = part_of c.args.id (all_items h) in
    let mid : Stands h (t ++ rows_made t ps) = c.in_ok-bucket.ensures.stands t st in
    same_stands c.move_into-old_stand.new.hierarchy (table_without c.args.id (t ++ rows_made t ps) ++ rows (Some b) n) (put t r ps)
    (item_same t st.lawful c.args.id c.args.to.now (c.requires.moves t st).leads r found (c.requires.can t r st found) n b (c.in_ok-bucket.ensures.next t st) c.recall_part.ensures.one (c.recall_part.ensures.rows (t ++ rows_made t ps) mid))
    (c.move_into-old_stand.ensures.puts.stands (t ++ rows_made t ps) mid)

pub returns-clause-undoes : goal.returns-clause-undoes
returns-clause-undoes g c = record { stood = c.make_room.new.hierarchy; back = c.move_into-old_stand.ensures.back; goes = c.in_ok-bucket.ensures.goes }
