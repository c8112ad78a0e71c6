use Rattle.std.proofs.Common.{◌≡◌, ◌++◌, true, false, refl, sym, subst}
use Rattle.std.specs.Prelude.{IfSome, not}
use Rattle.crush_units.specs.declared.id.ItemId.TheVariants.{Bucket}
use Rattle.crush_model.specs.Columns.{is_part, table_without}
use Rattle.crush_model.specs.Forest.{all_items, rows_of}
use Rattle.crush_model.specs.Items.{Items}
use Rattle.crush_model.specs.ItemRows.{rows}
use Rattle.crush_model.specs.Lawful.{is_too_heavy}
use Rattle.crush_model.specs.Stored.{weight_sum}
use Rattle.crush_model.proofs.Stands.{stands_for_rows}
use Rattle.crush_nodes.specs.Ops.{part_of, is_place, CanCome}
use Rattle.crush_nodes.specs.Room.{parent_at}
use Rattle.crush_apply.proofs.Fitting.{receiver_apart, item_told}
use Rattle.crush_apply.proofs.Destinations.{place_there}
use Rattle.crush_apply.proofs.route.room.fits_put_item.Goals as goal

pub recall_part-requires : goal.recall_part-requires
recall_part-requires g c =
    let f = c.args.hierarchy.now in
    (c.requires (rows_of f) (stands_for_rows f c.recall_invariant.ensures)).there

pub fits_move-requires : goal.fits_move-requires
fits_move-requires g c = record {
  place =
      let f = c.args.hierarchy.now in
      let can = c.requires (rows_of f) (stands_for_rows f c.recall_invariant.ensures) in
      subst (λ p. is_place (rows_of f) p ≡ true) (sym c.place.ensures) (place_there (rows_of f) c.args.to.now can.leads);
  apart =
      let f = c.args.hierarchy.now in
      let can = c.requires (rows_of f) (stands_for_rows f c.recall_invariant.ensures) in
      subst (λ p. IfSome (parent_at p) (λ b. is_part (rows_of f) c.args.id (Bucket b) ≡ false)) (sym c.place.ensures) (receiver_apart (rows_of f) c.args.id c.args.to.now can.leads can.apart);
}

pub returns : goal.returns
returns g c = λ t r st found room.
    let i = c.args.id in
    let to = c.args.to.now in
    let n : Items = part_of i (all_items c.args.hierarchy.now) in
    let w = weight_sum n in
    let can = c.requires t st in
    item_told t st.lawful to can.leads i r n w c.fits_move.result found can.apart room c.recall_part.ensures.one (c.recall_part.ensures.rows t st) c.recall_part.ensures.sums c.recall_part.ensures.small c.recall_part.ensures.light refl
    (subst (λ p. (m : Items) → weight_sum m ≡ w → CanCome (table_without i t) p m → c.fits_move.result ≡ not (is_too_heavy (table_without i t ++ rows (parent_at p) m))) c.place.ensures (c.fits_move.ensures t st))
