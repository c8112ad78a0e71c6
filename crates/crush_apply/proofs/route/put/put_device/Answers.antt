use Rattle.std.proofs.Common.{rules, ◌++◌, List, refl, sym, subst}
use Rattle.std.specs.Prelude.{Some, None}
use Rattle.crush_units.specs.declared.id.ItemId.TheVariants.{Device, Bucket}
use Rattle.crush_model.specs.Columns.{table_without, part}
use Rattle.crush_model.specs.Forest.{rows_of, all_items}
use Rattle.crush_model.specs.Items.{LeafData, Items, none, device}
use Rattle.crush_model.specs.ItemRows.{rows}
use Rattle.crush_model.specs.Lawful.{Lawful}
use Rattle.crush_model.specs.Same.{Same}
use Rattle.crush_model.specs.Stands.{Stands}
use Rattle.crush_model.specs.Table.{Row}
use Rattle.crush_model.proofs.Stands.{stands_for_rows, same_stands}
use Rattle.crush_hierarchy.specs.Given.{with_first_weight}
use Rattle.crush_nodes.specs.Ops.{part_of}
use Rattle.crush_edits.specs.LawRoute.{rows_made}
use Rattle.crush_edits.specs.Put.{put}
use Rattle.crush_edits.proofs.Edits.{some_row}
use Rattle.crush_apply.proofs.Steps.{few_new, still_there, next_there, put_lawful, device_form, device_same, part_devices, one_device, stands_there, stands_left, placed_lawful}
use Rattle.crush_apply.proofs.route.put.put_device.Goals as goal

pub make_room-requires-clause-counts : goal.make_room-requires-clause-counts
make_room-requires-clause-counts g c = λ t st.
    let row = some_row t (Device c.args.device) (c.requires.moves t st).there in
    few_new t st.lawful (Device c.args.device) c.args.to.now (c.requires.moves t st).leads row.0 c.args.weight row.1 (c.requires.can t row.0 st row.1)

pub recall_part-requires : goal.recall_part-requires
recall_part-requires g c =
    let f = c.args.hierarchy.now in
    let t : List Row = rows_of f in
    let st : Stands f t = stands_for_rows f c.recall_invariant.ensures in
    let i = Device c.args.device in
    let row = some_row t i (c.requires.moves t st).there in
    stands_there c.make_room.new.hierarchy (t ++ rows_made t c.args.to.now.stops) i (c.in_ok-bucket.ensures.stands t st)
    (still_there t st.lawful i c.args.to.now (c.requires.moves t st).leads row.0 c.args.weight row.1 (c.requires.can t row.0 st row.1))

pub move_into-old_stand-requires : goal.move_into-old_stand-requires
move_into-old_stand-requires g c =
    let f = c.args.hierarchy.now in
    let t : List Row = rows_of f in
    let st : Stands f t = stands_for_rows f c.recall_invariant.ensures in
    let ps = c.args.to.now.stops in
    let w = c.args.weight in
    let i = Device c.args.device in
    let row = some_row t i (c.requires.moves t st).there in
    let leads = (c.requires.moves t st).leads in
    let can = c.requires.can t row.0 st row.1 in
    let h = c.make_room.new.hierarchy in
    let b = c.in_ok-bucket.bucket in
    let next = c.in_ok-bucket.ensures.next t st in
    let mid : Stands h (t ++ rows_made t ps) = c.in_ok-bucket.ensures.stands t st in
    let l = one_device (part_of i (all_items h)) (part_devices c.args.device (all_items h)) c.recall_part.ensures.one in
    let d : LeafData = record l.0 { weight = w } in
    let whole : Same (rows None (device l.0 none)) (part i (t ++ rows_made t ps)) = subst (λ n. Same (rows None n) (part i (t ++ rows_made t ps))) l.1 (c.recall_part.ensures.rows (t ++ rows_made t ps) mid) in
    record {
      there = stands_there h (t ++ rows_made t ps) i mid (still_there t st.lawful i c.args.to.now leads row.0 w row.1 can);
      place = stands_left h (t ++ rows_made t ps) i (Bucket b) mid (next_there t st.lawful i c.args.to.now leads row.0 w row.1 can b next);
      room = search rules;
      fits =
          subst (λ (n : Items). Lawful (table_without i (rows_of h) ++ rows (Some b) (with_first_weight w n))) (sym l.1)
          (placed_lawful h (t ++ rows_made t ps) (put t (record row.0 { weight = w }) ps) (rows (Some b) (device d none)) i mid
          (device_same t st.lawful i c.args.to.now leads row.0 w row.1 can l.0 b next whole)
          (put_lawful t st.lawful i c.args.to.now leads row.0 w row.1 can (device_form t st.lawful i c.args.to.now leads row.0 w row.1 can c.args.device refl c.requires.weight)));
    }

pub returns-clause-stands : goal.returns-clause-stands
returns-clause-stands g c = λ t r st found.
    let ps = c.args.to.now.stops in
    let w = c.args.weight in
    let i = Device c.args.device in
    let h = c.make_room.new.hierarchy in
    let b = c.in_ok-bucket.bucket in
    let mid : Stands h (t ++ rows_made t ps) = c.in_ok-bucket.ensures.stands t st in
    let l = one_device (part_of i (all_items h)) (part_devices c.args.device (all_items h)) c.recall_part.ensures.one in
    let d : LeafData = record l.0 { weight = w } in
    let whole : Same (rows None (device l.0 none)) (part i (t ++ rows_made t ps)) = subst (λ n. Same (rows None n) (part i (t ++ rows_made t ps))) l.1 (c.recall_part.ensures.rows (t ++ rows_made t ps) mid) in
    same_stands c.move_into-old_stand.new.hierarchy (table_without i (t ++ rows_made t ps) ++ rows (Some b) (device d none)) (put t (record r { weight = w }) ps)
    (device_same t st.lawful i c.args.to.now (c.requires.moves t st).leads r w found (c.requires.can t r st found) l.0 b (c.in_ok-bucket.ensures.next t st) whole)
    (subst (λ (n : Items). Stands c.move_into-old_stand.new.hierarchy (table_without i (t ++ rows_made t ps) ++ rows (Some b) (with_first_weight w n))) l.1 (c.move_into-old_stand.ensures.puts.stands (t ++ rows_made t ps) mid))

pub returns-clause-undoes : goal.returns-clause-undoes
returns-clause-undoes g c = record { stood = c.make_room.new.hierarchy; back = c.move_into-old_stand.ensures.back; goes = c.in_ok-bucket.ensures.goes }
