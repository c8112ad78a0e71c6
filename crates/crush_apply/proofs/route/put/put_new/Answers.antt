use Rattle.std.proofs.Common.{◌≡◌, ◌≤◌, ◌++◌, [], ◌∷◌, List, length, true, ap, sym, subst, ◌∙◌}
use Rattle.std.proofs.lemmas.List.{length-take-le}
use Rattle.std.specs.Prelude.{None}
use Rattle.crush_model.specs.Forest.{rows_of}
use Rattle.crush_model.specs.Items.{Items, none, device}
use Rattle.crush_model.specs.ItemRows.{rows, device_row}
use Rattle.crush_model.specs.Lawful.{Lawful}
use Rattle.crush_model.specs.Stands.{Stands}
use Rattle.crush_model.specs.Stored.{StoresSums}
use Rattle.crush_model.specs.Table.{Row, free_ids}
use Rattle.crush_model.proofs.Stands.{stands_for_rows, same_stands}
use Rattle.crush_nodes.specs.Ops.{FitsPlace, is_place}
use Rattle.crush_nodes.specs.Room.{parent_at}
use Rattle.crush_nodes.specs.Seen.{items_of, leaf_data}
use Rattle.crush_edits.specs.Put.{put, with_ids}
use Rattle.crush_edits.proofs.Boxes.{StoresSums-boxes}
use Rattle.crush_apply.specs.Placed.{place_at}
use Rattle.crush_apply.specs.Stopped.{stops_data}
use Rattle.crush_apply.proofs.Destinations.{parent_of_place, place_there, stops-length, boxes_are, fresh_forms}
use Rattle.crush_apply.proofs.Steps.{new_item, new_same, new_lawful, new_fits}
use Rattle.crush_apply.proofs.Batching.{anyway}
use Rattle.crush_apply.proofs.route.put.put_new.Goals as goal

pub in_new_buckets-requires-clause-forms : goal.in_new_buckets-requires-clause-forms
in_new_buckets-requires-clause-forms g c =
    let f = c.args.hierarchy.now in
    fresh_forms (rows_of f) c.new_stops.result.0.now c.new_stops.result.1.now c.args.to.now c.new_stops.ensures.stops (c.requires.leads (rows_of f) (stands_for_rows f c.recall_invariant.ensures))

pub add_logged-requires : goal.add_logged-requires
add_logged-requires g c =
    let f = c.args.hierarchy.now in
    let t : List Row = rows_of f in
    let st : Stands f t = stands_for_rows f c.recall_invariant.ensures in
    let l = c.new_stops.result.0.now in
    let xs = c.new_stops.result.1.now in
    let to = c.args.to.now in
    let leads = c.requires.leads t st in
    let d = leaf_data c.args.leaf in
    let can = c.requires.can t st in
    let few : length xs ≤ length c.new_slots-slots.result = subst (λ n. length xs ≤ n) (sym c.new_slots-slots.ensures) c.new_stops.ensures.few in
    let ids : c.free_ids.new.ids ≡ free_ids t (length (stops_data l xs)) = c.free_ids.ensures.first t st ∙ ap (free_ids t) (length-take-le (length xs) c.new_slots-slots.result few ∙ sym (stops-length l xs)) in
    let is : items_of (c.in_ok-node.node ∷ []) ≡ new_item t st.lawful to leads d can = c.in_ok-node.ensures ∙ boxes_are t l xs to c.new_stops.ensures.stops leads (device d none) c.free_ids.new.ids ids in
    let at : parent_at c.place.result ≡ to.receiver = ap parent_at c.place.ensures ∙ parent_of_place to.receiver in
    record {
      there = subst (λ p. is_place (rows_of f) p ≡ true) (sym c.place.ensures) (place_there t to leads);
      sums = subst StoresSums (sym c.in_ok-node.ensures) (StoresSums-boxes 1 (device d none) (with_ids c.free_ids.new.ids (stops_data l xs)) tt);
      kind = subst (λ p. FitsPlace p (items_of (c.in_ok-node.node ∷ []))) (sym c.place.ensures) (subst (FitsPlace (place_at to.receiver)) (sym is) (new_fits t st.lawful to leads d can));
      fits =
          subst (λ (n : Items). Lawful (t ++ rows (parent_at c.place.result) n)) (sym is) (subst (λ p. Lawful (t ++ rows p (new_item t st.lawful to leads d can))) (sym at) (new_lawful t st.lawful to leads d can));
    }

pub returns-clause-stands : goal.returns-clause-stands
returns-clause-stands g c = λ t st.
    let l = c.new_stops.result.0.now in
    let xs = c.new_stops.result.1.now in
    let to = c.args.to.now in
    let leads = c.requires.leads t st in
    let d = leaf_data c.args.leaf in
    let can = c.requires.can t st in
    let few : length xs ≤ length c.new_slots-slots.result = subst (λ n. length xs ≤ n) (sym c.new_slots-slots.ensures) c.new_stops.ensures.few in
    let ids : c.free_ids.new.ids ≡ free_ids t (length (stops_data l xs)) = c.free_ids.ensures.first t st ∙ ap (free_ids t) (length-take-le (length xs) c.new_slots-slots.result few ∙ sym (stops-length l xs)) in
    let is : items_of (c.in_ok-node.node ∷ []) ≡ new_item t st.lawful to leads d can = c.in_ok-node.ensures ∙ boxes_are t l xs to c.new_stops.ensures.stops leads (device d none) c.free_ids.new.ids ids in
    let at : parent_at c.place.result ≡ to.receiver = ap parent_at c.place.ensures ∙ parent_of_place to.receiver in
    same_stands c.add_logged.new.hierarchy (t ++ rows to.receiver (new_item t st.lawful to leads d can)) (put t (device_row None d) to.stops) (new_same t st.lawful to leads d can)
    (subst (λ p. Stands c.add_logged.new.hierarchy (t ++ rows p (new_item t st.lawful to leads d can))) at (subst (λ (n : Items). Stands c.add_logged.new.hierarchy (t ++ rows (parent_at c.place.result) n)) is (c.in_ok-addition.ensures.adds.stands t st)))

pub returns-in_err-addition-clause-unchanged : goal.returns-in_err-addition-clause-unchanged
returns-in_err-addition-clause-unchanged g c = anyway c.from_residual-in_err-addition.result c.in_err-addition.ensures.adds.err
