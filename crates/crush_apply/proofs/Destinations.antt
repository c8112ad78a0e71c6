-- New buckets are added to a forest, and an item is put into the bucket of the first stop.
use Rattle.std.proofs.Common.{◌≡◌, ℕ, zero, suc, ◌+◌, ◌<◌, ◌≤◌, true, List, [], ◌∷◌, ◌++◌, length, take, get_or, ap, sym, subst, ◌∙◌, refl, arith, false, eq-eqb, append-nil, ⊎_elim}
use Rattle.std.specs.Prelude.{Option, Some, None, IfSome, All, Result, Ok, Err, IfOk, OnOk, ◌==◌, if◌then◌else◌}
use Rattle.std.specs.List.{prefix_len}
use Rattle.std.proofs.lemmas.Bool.Decides.{eqb_tells}
use Rattle.std.proofs.lemmas.List.{length-take-le}
use Rattle.std.proofs.lemmas.List.Sums.{prefix_len-le-length}
use Rattle.std.proofs.lemmas.List.Elements.{All-head, All-take}
use Rattle.crush_units.specs.declared.id.ItemId.TheVariants.{Bucket}
use Rattle.crush_model.specs.Items.{Items, none, bucket}
use Rattle.crush_model.specs.ItemRows.{rows}
use Rattle.crush_model.specs.Forest.{ForestData, OnlyBuckets}
use Rattle.crush_model.specs.Stored.{weight_sum}
use Rattle.crush_model.specs.Table.{Row, is_there, member, used_ids, free_ids}
use Rattle.crush_model.proofs.Appended.{unused_fresh}
use Rattle.crush_nodes.specs.Ops.{FitsPlace, is_place}
use Rattle.crush_model.specs.Count.{one_if}
use Rattle.crush_nodes.specs.Room.{parent_at, same_place, room, room_in, bucket_room}
use Rattle.crush_nodes.specs.declared.place.Place.{Place}
use Rattle.crush_nodes.specs.declared.place.Place.TheVariants.{Bucket as AtBucket}
use Rattle.crush_edits.specs.declared.location.Pair.{Pair}
use Rattle.crush_edits.specs.Boxes.{boxes}
use Rattle.crush_edits.specs.LawRoute.{rows_made}
use Rattle.crush_edits.specs.New.{IsStop}
use Rattle.crush_edits.specs.Put.{NewData, with_ids, new_header, new_buckets, next_up, next_place}
use Rattle.crush_edits.specs.Stops.{StopData, is_fresh, fresh_stops, receiver}
use Rattle.crush_edits.proofs.Boxes.{rows-empty}
use Rattle.crush_edits.proofs.Routes.{receiver_there, route_next}
use Rattle.crush_edits.proofs.Tails.{none_new}
use Rattle.crush_apply.specs.declared.route.stops.Stop.{Stop}
use Rattle.crush_apply.specs.Placed.{place_at, numbered, new_boxes}
use Rattle.crush_apply.specs.Destination.{DestinationData, Leads}
use Rattle.crush_apply.specs.Stopped.{stop_data, stops_data}

pub parent_of_place : (o : Option ℕ) → parent_at (place_at o) ≡ o
parent_of_place None = refl
parent_of_place (Some b) = refl

pub stops-length : (l : List Pair) (xs : List Stop) → length (stops_data l xs) ≡ length xs
stops-length l [] = refl
stops-length l (x ∷ xs) = ap suc (stops-length l xs)

pub stops-take : (l : List Pair) (k : ℕ) (xs : List Stop) → stops_data l (take k xs) ≡ take k (stops_data l xs)
stops-take l zero xs = refl
stops-take l (suc k) [] = refl
stops-take l (suc k) (x ∷ xs) = ap (λ z. stop_data l x ∷ z) (stops-take l k xs)

-- if items that are all buckets are put into new buckets, the resulting items are again all buckets
buckets-boxes : (m : ℕ) (n : Items) (ns : List NewData) → OnlyBuckets n → OnlyBuckets (boxes m n ns)
buckets-boxes m n [] o = o
buckets-boxes m n (x ∷ ns) o = buckets-boxes m (bucket (new_header x) (weight_sum n) m n none) ns tt

pub placed_boxes : (o : Option ℕ) (m : ℕ) (n : Items) (ns : List NewData) (b : ℕ) → next_up ns o ≡ Some b → FitsPlace (place_at o) (boxes m n ns)
placed_boxes None m n [] b next = absurd cc
placed_boxes None m n (x ∷ ns) b next = buckets-boxes m (bucket (new_header x) (weight_sum n) m n none) ns tt
placed_boxes (Some c) m n ns b next = tt

-- new buckets around an item leave a bucket of the item at least as much room
room-boxes : (b m : ℕ) (n : Items) (ns : List NewData) → bucket_room b n ≤ bucket_room b (boxes m n ns)
room-boxes b m n [] = omega arith
room-boxes b m n (x ∷ ns) = omega (arith, room-boxes b m (bucket (new_header x) (weight_sum n) m n none) ns)

pub lowest_is : (ids : List ℕ) (ps : List StopData) (d : ℕ) (top : Option ℕ) → 0 < length ids → 0 < length ps → next_up (with_ids ids ps) top ≡ Some (get_or ids 0 d)
lowest_is [] ps d top h g = absurd (omega (arith, h))
lowest_is (i ∷ ids) [] d top h g = absurd (omega (arith, g))
lowest_is (i ∷ ids) (p ∷ ps) d top h g = refl

pub lowest_room : (ids : List ℕ) (ps : List StopData) (d : ℕ) → 0 < length ids → 0 < length ps → 0 < bucket_room (get_or ids 0 d) (boxes 1 none (with_ids ids ps))
lowest_room [] ps d h g = absurd (omega (arith, h))
lowest_room (i ∷ ids) [] d h g = absurd (omega (arith, g))
lowest_room (i ∷ ids) (p ∷ ps) d h g =
    let n : NewData = record { id = i; kind = p.kind; name = p.name } in
    let own : ◌≡◌ {A = ℕ} (if i == i then 1 else 0) 1 = ap (λ b. if b then 1 else 0) (eq-eqb i i refl) in
    omega (arith, own, room-boxes i 1 (bucket (new_header n) 0 1 none none) (with_ids ids ps))

-- the place of a new bucket isn't one of the places that the table has
pub new_place : (t : List Row) (o : Option ℕ) (b : ℕ) → member b (used_ids t) ≡ false → is_place t (place_at o) ≡ true → same_place (AtBucket b) (place_at o) ≡ false
new_place t None b unused there = refl
new_place t (Some c) b unused there = ⊎_elim (λ p. absurd (let no : false ≡ true = sym (unused_fresh t b unused) ∙ ap (λ k. is_there t (Bucket k)) p.1 ∙ there in cc)) (λ p. p.0) (eqb_tells b c)

-- items that are added keep their room
pub room_kept : (f g : ForestData) (n : Items) (p q : Place) → room f p + room_in n p ≤ room g p + one_if (same_place p q) → same_place p q ≡ false → 0 < room_in n p → 0 < room g p
room_kept f g n p q e other own = let no : one_if (same_place p q) ≡ 0 = ap one_if other in omega (arith, e, no, own)

-- a property of all ids holds for the first
pub of_first : (P : ℕ → Type 0) (ids : List ℕ) (d : ℕ) → 0 < length ids → All P ids → P (get_or ids 0 d)
of_first P [] d h all = absurd (omega (arith, h))
of_first P (i ∷ ids) d h all = All-head P i ids all

-- the receiver's place is in the table
pub place_there : (t : List Row) (to : DestinationData) → Leads t to → is_place t (place_at to.receiver) ≡ true
place_there t to leads = by_top to.receiver (subst (λ o. IfSome o (λ b. is_there t (Bucket b) ≡ true)) (sym leads.receiver) (receiver_there t to.stops)) where
  by_top : (o : Option ℕ) → IfSome o (λ b. is_there t (Bucket b) ≡ true) → is_place t (place_at o) ≡ true
  by_top None h = refl
  by_top (Some b) h = h

any_top : (ns : List NewData) (top : Option ℕ) (b : ℕ) → next_up ns None ≡ Some b → next_up ns top ≡ Some b
any_top [] top b e = absurd cc
any_top (n ∷ ns) top b e = e

nothing : {X : Type 0} (xs : List X) → length xs ≡ 0 → xs ≡ []
nothing [] e = refl
nothing (x ∷ xs) e = absurd (omega (arith, e))

-- a property of an Ok result that implies another
pub of_ok : {X E : Type 0} (P Q : X → Type 0) (x : Result X E) → ((v : X) → P v → Q v) → IfOk x P → IfOk x Q
of_ok P Q (Ok v) h p = h v p
of_ok P Q (Err e) h p = p

pub on_ok : {X E P Q : Type 0} (x : Result X E) → (P → Q) → OnOk x P → OnOk x Q
on_ok (Ok v) h p = h p
on_ok (Err e) h p = tt

-- THE NEW STOPS of a destination
module _ (t : List Row) (l : List Pair) (xs : List Stop) (to : DestinationData) (are : stops_data l xs ≡ take to.fresh to.stops) (leads : Leads t to) where
  count_is : to.fresh ≡ prefix_len (is_fresh t) to.stops
  count_is = leads.fresh ∙ length-take-le (prefix_len (is_fresh t) to.stops) to.stops (prefix_len-le-length (is_fresh t) to.stops)

  pub fresh_are : stops_data l xs ≡ fresh_stops t to.stops
  fresh_are = are ∙ ap (λ k. take k to.stops) count_is

  pub boxes_are : (item : Items) (ids : List ℕ) → ids ≡ free_ids t (length (stops_data l xs)) → boxes 1 item (with_ids ids (stops_data l xs)) ≡ boxes 1 item (new_buckets t to.stops)
  boxes_are item ids e = ap (λ i. boxes 1 item (with_ids i (stops_data l xs))) e ∙ ap (λ z. boxes 1 item (numbered t z)) fresh_are

  pub fresh_forms : All IsStop (stops_data l xs)
  fresh_forms = subst (All IsStop) (sym are) (All-take IsStop to.fresh to.stops leads.route.forms)

  pub rows_are : rows to.receiver (new_boxes t (stops_data l xs)) ≡ rows_made t to.stops
  rows_are = (λ j. rows (leads.receiver j) (new_boxes t (fresh_are j))) ∙ rows-empty 1 (new_buckets t to.stops) (receiver t to.stops)

  pub next_is : (b : ℕ) → next_up (numbered t (stops_data l xs)) None ≡ Some b → next_place t to.stops ≡ Some b
  next_is b e = any_top (new_buckets t to.stops) (receiver t to.stops) b (ap (λ z. next_up (numbered t z) None) (sym fresh_are) ∙ e)

-- if no bucket is new, the item is put into the receiver
module _ (t : List Row) (to : DestinationData) (leads : Leads t to) (none : to.fresh ≤ 0) where
  empty : fresh_stops t to.stops ≡ []
  empty = nothing (fresh_stops t to.stops) (omega (arith, leads.fresh, none))

  pub next_receives : next_place t to.stops ≡ to.receiver
  next_receives = (none_new t to.stops empty).1 ∙ sym leads.receiver

  pub none_made : t ≡ t ++ rows_made t to.stops
  none_made = sym (ap (λ z. t ++ z) (none_new t to.stops empty).0 ∙ append-nil t)

  pub receives : to.receiver ≡ None → ⊥
  receives e = let next = route_next t to.stops leads.route in let is : None ≡ Some next.0 = sym e ∙ sym next_receives ∙ next.1 in cc
