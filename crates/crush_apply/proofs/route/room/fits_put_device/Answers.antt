use Rattle.std.proofs.Common.{◌≡◌, ◌++◌, true, sym, subst}
use Rattle.std.specs.Prelude.{None, not}
use Rattle.crush_units.specs.declared.id.ItemId.TheVariants.{Device}
use Rattle.crush_model.specs.Columns.{table_without, part}
use Rattle.crush_model.specs.Forest.{all_items, rows_of}
use Rattle.crush_model.specs.Items.{Items, device, none}
use Rattle.crush_model.specs.ItemRows.{rows}
use Rattle.crush_model.specs.Lawful.{is_too_heavy}
use Rattle.crush_model.specs.Same.{Same}
use Rattle.crush_model.specs.Stored.{weight_sum}
use Rattle.crush_model.proofs.Stands.{stands_for_rows}
use Rattle.crush_nodes.specs.Ops.{part_of, is_place, CanCome}
use Rattle.crush_nodes.specs.Room.{parent_at}
use Rattle.crush_edits.proofs.Edits.{device_apart}
use Rattle.crush_apply.proofs.Fitting.{device_told}
use Rattle.crush_apply.proofs.Steps.{part_devices, one_device}
use Rattle.crush_apply.proofs.Destinations.{place_there}
use Rattle.crush_apply.proofs.route.room.fits_put_device.Goals as goal

pub recall_part-requires : goal.recall_part-requires
recall_part-requires g c =
    let f = c.args.hierarchy.now in
    (c.requires.can (rows_of f) (stands_for_rows f c.recall_invariant.ensures)).there

pub fits_move-requires : goal.fits_move-requires
fits_move-requires g c = record {
  place =
      let f = c.args.hierarchy.now in
      let can = c.requires.can (rows_of f) (stands_for_rows f c.recall_invariant.ensures) in
      subst (λ p. is_place (rows_of f) p ≡ true) (sym c.place.ensures) (place_there (rows_of f) c.args.to.now can.leads);
  apart = device_apart (rows_of c.args.hierarchy.now) c.args.device (parent_at c.place.result);
}

pub returns : goal.returns
returns g c = λ t r st found room.
    let i = Device c.args.device in
    let to = c.args.to.now in
    let d = one_device (part_of i (all_items c.args.hierarchy.now)) (part_devices c.args.device (all_items c.args.hierarchy.now)) c.recall_part.ensures.one in
    let whole : Same (rows None (device d.0 none)) (part i t) = subst (λ n. Same (rows None n) (part i t)) d.1 (c.recall_part.ensures.rows t st) in
    let can = c.requires.can t st in
    device_told t st.lawful to can.leads i r d.0 c.args.weight c.fits_move.result found can.apart room whole c.requires.weight
    (subst (λ p. (m : Items) → weight_sum m ≡ c.args.weight → CanCome (table_without i t) p m → c.fits_move.result ≡ not (is_too_heavy (table_without i t ++ rows (parent_at p) m))) c.place.ensures (c.fits_move.ensures t st))
