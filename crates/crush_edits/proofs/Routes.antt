-- The new buckets of a route, and the bucket that receives them, in a lawful table.
use Rattle.std.proofs.Common.{◌≡◌, ℕ, suc, ◌<◌, ◌≤◌, Bool, true, false, List, [], ◌∷◌, length, ap, sym, subst, ◌∙◌, refl, arith, ⊎_elim}
use Rattle.std.specs.Prelude.{◌==◌, not, if◌then◌else◌, Option, Some, None, IfSome, All, is_some, option_and_then, bytes_eq}
use Rattle.std.specs.List.{count_by, prefix_len}
use Rattle.std.specs.Option.{option_map}
use Rattle.std.proofs.lemmas.List.Sums.{sum_by-cons, sum_by-take-le, take_while-cons, prefix_len-le-length}
use Rattle.std.proofs.lemmas.List.{length-take-le}
use Rattle.std.proofs.lemmas.List.Elements.{All-nil, All-cons, All-head, All-tail, All-take}
use Rattle.crush_units.specs.declared.id.ItemId.{ItemId}
use Rattle.crush_units.specs.declared.id.ItemId.TheVariants.{Device, Bucket}
use Rattle.crush_units.specs.Id.{same_id}
use Rattle.crush_units.proofs.Ids.{same_id_refl}
use Rattle.crush_units.specs.declared.limits.TheConstants.{FARTHEST_BUCKET_ID}
use Rattle.crush_model.specs.Table.{Row, is_device_id, row_named, id_named, is_named, is_there, member, used_ids, free_ids}
use Rattle.crush_model.specs.Lawful.{Lawful}
use Rattle.crush_model.specs.Count.{one_if}
use Rattle.crush_model.proofs.Found.{times, times-cons, times-is_there}
use Rattle.crush_model.proofs.Weighs.{true_or_false}
use Rattle.crush_edits.specs.Stops.{StopData, is_fresh, fresh_stops, end_stop, end_id, number_of, receiver}
use Rattle.crush_edits.specs.Put.{NewData, with_ids, new_buckets, next_up, next_place}
use Rattle.crush_model.specs.Law.{AreFreeIds}
use Rattle.crush_edits.specs.New.{IsStop, OnceNamed, IsRoute, IsNew, AreNew}
use Rattle.crush_model.proofs.FreeIds.{free_ids-length, free_ids-lawful}

-- the table has a row with the id of each item that a name finds
named_times : (t : List Row) (n : List ℕ) (r : Row) → row_named t n ≡ Some r → 1 ≤ times r.id t
named_times [] n r e = absurd cc
named_times (x ∷ t) n r e = by_name (bytes_eq x.name n) e (named_times t n r) where
  by_name : (b : Bool) → (if b then Some x else row_named t n) ≡ Some r → (row_named t n ≡ Some r → 1 ≤ times r.id t) → 1 ≤ times r.id (x ∷ t)
  by_name true f ih =
      let is : x ≡ r = cc in
      let own : one_if (same_id x.id r.id) ≡ 1 = ap (λ (y : Row). one_if (same_id x.id y.id)) (sym is) ∙ ap one_if (same_id_refl x.id) in
      omega (arith, own, times-cons r.id x t)
  by_name false f ih = omega (arith, ih f, times-cons r.id x t)

pub named_there : (t : List Row) (n : List ℕ) → IfSome (id_named t n) (λ i. is_there t i ≡ true)
named_there t n = by_row (row_named t n) refl where
  by_row : (o : Option Row) → row_named t n ≡ o → IfSome (option_map (λ (r : Row). r.id) o) (λ i. is_there t i ≡ true)
  by_row None e = tt
  by_row (Some r) e = times-is_there t r.id (named_times t n r e)

pub end_there : (t : List Row) (ps : List StopData) → IfSome (end_id t ps) (λ i. is_there t i ≡ true)
end_there t ps = by_stop (end_stop t ps) where
  by_stop : (o : Option StopData) → IfSome (option_and_then (λ (p : StopData). id_named t p.name) o) (λ i. is_there t i ≡ true)
  by_stop None = tt
  by_stop (Some p) = named_there t p.name

-- the table has the receiver
pub receiver_there : (t : List Row) (ps : List StopData) → IfSome (receiver t ps) (λ b. is_there t (Bucket b) ≡ true)
receiver_there t ps = by_id (end_id t ps) (end_there t ps) where
  by_id : (o : Option ItemId) → IfSome o (λ i. is_there t i ≡ true) → IfSome (option_and_then number_of o) (λ b. is_there t (Bucket b) ≡ true)
  by_id None h = tt
  by_id (Some (Device d)) h = tt
  by_id (Some (Bucket b)) h = h

-- the table has none of the names of the stops before the end
fresh_unnamed : (t : List Row) (ps : List StopData) → All (λ (p : StopData). is_named t p.name ≡ false) (fresh_stops t ps)
fresh_unnamed t [] = All-nil (λ (p : StopData). is_named t p.name ≡ false)
fresh_unnamed t (p ∷ ps) = subst (All (λ (q : StopData). is_named t q.name ≡ false)) (sym (take_while-cons (is_fresh t) p ps)) (by_name (is_named t p.name) refl (fresh_unnamed t ps)) where
  by_name : (b : Bool) → is_named t p.name ≡ b → All (λ (q : StopData). is_named t q.name ≡ false) (fresh_stops t ps) → All (λ (q : StopData). is_named t q.name ≡ false) (if not b then p ∷ fresh_stops t ps else [])
  by_name true e rest = All-nil (λ (q : StopData). is_named t q.name ≡ false)
  by_name false e rest = All-cons (λ (q : StopData). is_named t q.name ≡ false) p (fresh_stops t ps) e rest

pub fresh_few : (t : List Row) (ps : List StopData) → length (fresh_stops t ps) ≤ length ps
fresh_few t ps = omega (arith, prefix_len-le-length (is_fresh t) ps, length-take-le (prefix_len (is_fresh t) ps) ps (prefix_len-le-length (is_fresh t) ps))

-- STOPS WITH IDS
pub with_ids-All : (P : NewData → Type 0) (Q : ℕ → Type 0) (R : StopData → Type 0) → ((i : ℕ) (p : StopData) → Q i → R p → P (record { id = i; kind = p.kind; name = p.name })) → (ids : List ℕ) (ps : List StopData) → All Q ids → All R ps → All P (with_ids ids ps)
with_ids-All P Q R h [] ps a b = All-nil P
with_ids-All P Q R h (i ∷ ids) [] a b = All-nil P
with_ids-All P Q R h (i ∷ ids) (p ∷ ps) a b =
    All-cons P (record { id = i; kind = p.kind; name = p.name }) (with_ids ids ps) (h i p (All-head Q i ids a) (All-head R p ps b)) (with_ids-All P Q R h ids ps (All-tail Q i ids a) (All-tail R p ps b))

pub with_ids-ids : (k : ℕ) (ids : List ℕ) (ps : List StopData) → count_by (λ (n : NewData). n.id == k) (with_ids ids ps) ≤ count_by (λ u. u == k) ids
with_ids-ids k [] ps = omega arith
with_ids-ids k (i ∷ ids) [] = omega arith
with_ids-ids k (i ∷ ids) (p ∷ ps) = omega (arith, sum_by-cons (λ (n : NewData). one_if (n.id == k)) (record { id = i; kind = p.kind; name = p.name }) (with_ids ids ps), sum_by-cons (λ u. one_if (u == k)) i ids, with_ids-ids k ids ps)

pub with_ids-names : (m : List ℕ) (ids : List ℕ) (ps : List StopData) → count_by (λ (n : NewData). bytes_eq n.name m) (with_ids ids ps) ≤ count_by (λ (p : StopData). bytes_eq p.name m) ps
with_ids-names m [] ps = omega arith
with_ids-names m (i ∷ ids) [] = omega arith
with_ids-names m (i ∷ ids) (p ∷ ps) =
    omega (arith, sum_by-cons (λ (n : NewData). one_if (bytes_eq n.name m)) (record { id = i; kind = p.kind; name = p.name }) (with_ids ids ps), sum_by-cons (λ (q : StopData). one_if (bytes_eq q.name m)) p ps, with_ids-names m ids ps)

pub with_ids-length : (ids : List ℕ) (ps : List StopData) → length ids ≡ length ps → length (with_ids ids ps) ≡ length ps
with_ids-length [] [] e = refl
with_ids-length [] (p ∷ ps) e = absurd (omega (arith, e))
with_ids-length (i ∷ ids) [] e = absurd (omega (arith, e))
with_ids-length (i ∷ ids) (p ∷ ps) e = ap suc (with_ids-length ids ps (omega (arith, e)))

pub new_buckets-length : (t : List Row) (ps : List StopData) → length (new_buckets t ps) ≡ length (fresh_stops t ps)
new_buckets-length t ps = with_ids-length (free_ids t (length (fresh_stops t ps))) (fresh_stops t ps) (free_ids-length t (length (fresh_stops t ps)))

-- free ids and stops whose names the table doesn't have give buckets that the table can get
pub numbered_new : (t : List Row) (m : ℕ) (ids : List ℕ) (ps : List StopData) (top : Option ℕ) → AreFreeIds t m ids → All IsStop ps → All (λ (p : StopData). is_named t p.name ≡ false) ps → OnceNamed ps → IfSome top (λ b. is_there t (Bucket b) ≡ true) → AreNew t (with_ids ids ps) top
numbered_new t m ids ps top free forms unnamed once there = record {
  forms = with_ids-All IsNew (λ k. (0 < k) × (k ≤ FARTHEST_BUCKET_ID)) IsStop (λ i p r f. record { some = r.0; most = r.1; kind_some = f.kind_some; kind_most = f.kind_most; name = f.name }) ids ps (λ k d h. (free.some k d h, free.most k d h)) forms;
  unused = with_ids-All (λ (n : NewData). member n.id (used_ids t) ≡ false) (λ k. member k (used_ids t) ≡ false) IsStop (λ i p h f. h) ids ps free.unused forms;
  unnamed = with_ids-All (λ (n : NewData). is_named t n.name ≡ false) (λ k. 0 < k) (λ (p : StopData). is_named t p.name ≡ false) (λ i p h f. f) ids ps free.some unnamed;
  ids = λ k. omega (arith, free.once k, with_ids-ids k ids ps);
  names = λ m. omega (arith, once m, with_ids-names m ids ps);
  there = there;
}

-- THE LAW: a lawful table can get the new buckets of a route
pub route_fresh : (t : List Row) (ps : List StopData) → Lawful t → IsRoute t ps → AreNew t (new_buckets t ps) (receiver t ps)
route_fresh t ps l route =
    numbered_new t (length (fresh_stops t ps)) (free_ids t (length (fresh_stops t ps))) (fresh_stops t ps) (receiver t ps)
    (free_ids-lawful t (length (fresh_stops t ps)) l (omega (arith, fresh_few t ps, route.few)))
    (All-take IsStop (prefix_len (is_fresh t) ps) ps route.forms)
    (fresh_unnamed t ps)
    (λ n. omega (arith, route.once n, sum_by-take-le (λ (p : StopData). one_if (bytes_eq p.name n)) ps (prefix_len (is_fresh t) ps)))
    (receiver_there t ps)

-- the item is put into a new bucket, or into the bucket that has the name of the lowest stop
some_next : (ns : List NewData) (top : Option ℕ) → 0 < length ns → (b : ℕ) × (next_up ns top ≡ Some b)
some_next [] top h = absurd (omega (arith, h))
some_next (n ∷ ns) top h = (n.id, refl)

pub no_next : (ns : List NewData) (top : Option ℕ) → length ns ≡ 0 → next_up ns top ≡ top
no_next [] top h = refl
no_next (n ∷ ns) top h = absurd (omega (arith, h))

-- if the table has the name of the lowest stop, that stop ends the route and no bucket is new
pub end_first : (t : List Row) (p : StopData) (ps : List StopData) → is_named t p.name ≡ true → (fresh_stops t (p ∷ ps) ≡ []) × (end_id t (p ∷ ps) ≡ id_named t p.name)
end_first t p ps e = (take_while-cons (is_fresh t) p ps ∙ ap (λ b. if not b then p ∷ fresh_stops t ps else []) e, ap (λ b. option_and_then (λ (q : StopData). id_named t q.name) (if b then Some p else end_stop t ps)) e)

bucket_of : (o : Option ItemId) → is_some o ≡ true → IfSome o (λ i. is_device_id i ≡ false) → (b : ℕ) × (option_and_then number_of o ≡ Some b)
bucket_of None some h = absurd cc
bucket_of (Some (Device d)) some h = absurd cc
bucket_of (Some (Bucket b)) some h = (b, refl)

pub route_next : (t : List Row) (ps : List StopData) → IsRoute t ps → (b : ℕ) × (next_place t ps ≡ Some b)
route_next t [] route = absurd (let some = route.some in omega (arith, some))
route_next t (p ∷ ps) route = ⊎_elim
    (λ e. let first = end_first t p ps e in
    let none_new : length (new_buckets t (p ∷ ps)) ≡ 0 = new_buckets-length t (p ∷ ps) ∙ ap length first.0 in
    let place = bucket_of (end_id t (p ∷ ps)) (ap is_some first.1 ∙ e) route.ends in
    (place.0, no_next (new_buckets t (p ∷ ps)) (receiver t (p ∷ ps)) none_new ∙ place.1))
    (λ e. let first : fresh_stops t (p ∷ ps) ≡ p ∷ fresh_stops t ps = take_while-cons (is_fresh t) p ps ∙ ap (λ b. if not b then p ∷ fresh_stops t ps else []) e in
    let many : length (fresh_stops t (p ∷ ps)) ≡ suc (length (fresh_stops t ps)) = ap length first in
    some_next (new_buckets t (p ∷ ps)) (receiver t (p ∷ ps)) (omega (arith, many, new_buckets-length t (p ∷ ps))))
    (true_or_false (is_named t p.name))
