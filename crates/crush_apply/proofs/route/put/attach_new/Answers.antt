use Rattle.std.proofs.Common.{◌≡◌, ◌<◌, ◌≤◌, true, false, ◌∷◌, [], ◌++◌, length, ap, sym, subst, ◌∙◌, refl, arith, get_or}
use Rattle.std.specs.Prelude.{None, Some}
use Rattle.std.proofs.lemmas.List.{length-take-le}
use Rattle.crush_model.specs.Forest.{rows_of}
use Rattle.crush_model.specs.ItemRows.{rows}
use Rattle.crush_model.specs.Items.{none}
use Rattle.crush_model.specs.Lawful.{Lawful}
use Rattle.crush_model.specs.Stands.{Stands}
use Rattle.crush_model.specs.Stored.{StoresSums}
use Rattle.crush_model.specs.Table.{free_ids, used_ids, member}
use Rattle.crush_model.proofs.Stands.{stands_for_rows}
use Rattle.crush_nodes.specs.Ops.{FitsPlace, is_place}
use Rattle.crush_nodes.specs.Room.{bucket_room, parent_at, same_place}
use Rattle.crush_nodes.specs.Seen.{items_of}
use Rattle.crush_nodes.specs.declared.place.Place.TheVariants.{Bucket as AtBucket}
use Rattle.crush_edits.specs.Boxes.{boxes}
use Rattle.crush_edits.specs.Put.{with_ids, next_up}
use Rattle.crush_edits.proofs.Boxes.{StoresSums-boxes}
use Rattle.crush_apply.specs.Placed.{place_at, new_boxes}
use Rattle.crush_apply.specs.Stopped.{stops_data}
use Rattle.crush_apply.proofs.Destinations.{parent_of_place, stops-length, placed_boxes, lowest_is, lowest_room, of_first, new_place, room_kept}
use Rattle.crush_apply.proofs.Undone.{no_room_made}
use Rattle.crush_apply.proofs.route.put.attach_new.Goals as goal

pub add_logged-requires : goal.add_logged-requires
add_logged-requires g c =
    let f = c.args.hierarchy.now in
    let ps = stops_data c.args.at.now c.args.stops.now in
    let ids = c.free_ids.new.ids in
    let some = c.requires.some in
    let many = stops-length c.args.at.now c.args.stops.now in
    let length_is = length-take-le (length c.args.stops.now) _ (subst (λ n. length c.args.stops.now ≤ n) (sym c.new_slots-slots.ensures) c.requires.few) in
    let as_many : length ids ≡ length c.args.stops.now = c.free_ids.ensures.as_many ∙ length_is in
    let free : ids ≡ free_ids (rows_of f) (length ps) = c.free_ids.ensures.first (rows_of f) (stands_for_rows f c.recall_invariant.ensures) ∙ ap (free_ids (rows_of f)) (length_is ∙ sym many) in
    let are : items_of (c.in_ok-node.node ∷ []) ≡ new_boxes (rows_of f) ps = c.in_ok-node.ensures ∙ ap (λ i. boxes 1 none (with_ids i ps)) free in
    let at : parent_at c.place_of.result ≡ c.args.receiver = ap parent_at c.place_of.ensures ∙ parent_of_place c.args.receiver in
    record {
      there = subst (λ p. is_place (rows_of f) p ≡ true) (sym c.place_of.ensures) c.requires.there;
      sums = subst StoresSums (sym c.in_ok-node.ensures) (StoresSums-boxes 1 none (with_ids ids ps) tt);
      kind =
          subst (λ p. FitsPlace p (items_of (c.in_ok-node.node ∷ []))) (sym c.place_of.ensures)
          (subst (FitsPlace (place_at c.args.receiver)) (sym c.in_ok-node.ensures)
          (placed_boxes c.args.receiver 1 none (with_ids ids ps) (get_or ids 0 0) (lowest_is ids ps 0 c.args.receiver (omega (arith, as_many, some)) (omega (arith, many, some)))));
      fits =
          subst (λ n. Lawful (rows_of f ++ rows (parent_at c.place_of.result) n)) (sym are)
          (subst (λ p. Lawful (rows_of f ++ rows p (new_boxes (rows_of f) ps))) (sym at) c.requires.fits);
    }

pub returns-in_err-node : goal.returns-in_err-node
returns-in_err-node g c = no_room_made _ _ _ _ _ _ c.from_residual.ensures.1 refl

pub returns-in_err-addition : goal.returns-in_err-addition
returns-in_err-addition g c = no_room_made _ _ _ _ _ _ c.from_residual-in_err-addition.ensures.1 c.in_err-addition.ensures.adds.err

pub returns : goal.returns
returns g c =
    let f = c.args.hierarchy.now in
    let h = c.add_logged.new.hierarchy in
    let adds = c.in_ok-addition.ensures.adds in
    let ps = stops_data c.args.at.now c.args.stops.now in
    let ids = c.free_ids.new.ids in
    let b = c.index-ids-0.result in
    let n = items_of (c.in_ok-node.node ∷ []) in
    let some = c.requires.some in
    let many = stops-length c.args.at.now c.args.stops.now in
    let length_is = length-take-le (length c.args.stops.now) _ (subst (λ n. length c.args.stops.now ≤ n) (sym c.new_slots-slots.ensures) c.requires.few) in
    let as_many : length ids ≡ length c.args.stops.now = c.free_ids.ensures.as_many ∙ length_is in
    let ids_some : 0 < length ids = omega (arith, as_many, some) in
    let unused : member b (used_ids (rows_of f)) ≡ false =
    subst (λ k. member k (used_ids (rows_of f)) ≡ false) (sym c.index-ids-0.is) (of_first (λ k. member k (used_ids (rows_of f)) ≡ false) ids b ids_some (c.free_ids.ensures.unused (rows_of f) (stands_for_rows f c.recall_invariant.ensures))) in
    let own : 0 < bucket_room b (boxes 1 none (with_ids ids ps)) = subst (λ k. 0 < bucket_room k (boxes 1 none (with_ids ids ps))) (sym c.index-ids-0.is) (lowest_room ids ps b ids_some (omega (arith, many, some))) in
    record {
      next = λ t st.
          let free : ids ≡ free_ids t (length ps) = c.free_ids.ensures.first t st ∙ ap (free_ids t) (length_is ∙ sym many) in
          ap (λ i. next_up (with_ids i ps) None) (sym free) ∙ lowest_is ids ps b None ids_some (omega (arith, many, some)) ∙ ap Some (sym c.index-ids-0.is);
      stands = λ t st.
          let free : ids ≡ free_ids t (length ps) = c.free_ids.ensures.first t st ∙ ap (free_ids t) (length_is ∙ sym many) in
          let are : n ≡ new_boxes t ps = c.in_ok-node.ensures ∙ ap (λ i. boxes 1 none (with_ids i ps)) free in
          let at : parent_at c.place_of.result ≡ c.args.receiver = ap parent_at c.place_of.ensures ∙ parent_of_place c.args.receiver in
          subst (λ n. Stands h (t ++ rows c.args.receiver n)) are (subst (λ p. Stands h (t ++ rows p n)) at (adds.stands t st));
      room =
          room_kept f h n (AtBucket b) c.place_of.result (adds.rooms (AtBucket b)) (ap (same_place (AtBucket b)) c.place_of.ensures ∙ new_place (rows_of f) c.args.receiver b unused c.requires.there)
          (subst (λ m. 0 < bucket_room b m) (sym c.in_ok-node.ensures) own);
      goes = c.in_ok-addition.ensures.goes;
      unchanged = tt;
    }
