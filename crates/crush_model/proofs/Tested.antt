-- A table that passes the test is lawful.
use Rattle.std.proofs.Common.{◌≡◌, ℕ, ◌≤◌, Bool, true, false, List, [], ◌∷◌, length, ap, sym, subst, ◌∙◌, refl, arith, eq-eqb, ⊎_elim}
use Rattle.std.specs.Prelude.{◌==◌, ◌||◌, ◌&&◌, not, if◌then◌else◌, Option, Some, None, IfSome, All, map, is_some, is_none, bytes_eq, nat_lt, nat_le}
use Rattle.std.specs.List.{count_by, list_any}
use Rattle.std.proofs.lemmas.Bool.{ltb-true, ltb-false, leb-true, eqb-true}
use Rattle.std.proofs.lemmas.Slice.Eq.{bytes_eq-Decides}
use Rattle.std.proofs.lemmas.List.Sums.{sum_by-cons, AllPass-from_list_all}
use Rattle.std.proofs.lemmas.List.Elements.{All-weaker}
use Rattle.crush_units.specs.declared.id.ItemId.{ItemId}
use Rattle.crush_units.specs.declared.id.ItemId.TheVariants.{Device, Bucket}
use Rattle.crush_units.specs.Id.{same_id}
use Rattle.crush_units.specs.Name.{IsName, is_name}
use Rattle.crush_units.proofs.Ids.{same_id_equal, same_id_refl, same_id_tells}
use Rattle.crush_units.proofs.Names.{is_name_holds}
use Rattle.crush_model.specs.Items.{ShadowData}
use Rattle.crush_model.specs.Table.{Row, row_of, is_there, is_below, used_ids, device_count, bucket_count}
use Rattle.crush_model.specs.Lawful.{IsShadowId, IsRow, IsRowOf, HasParent, Lawful, is_too_heavy, has_too_many}
use Rattle.crush_model.specs.Tested.{all_hold, are_apart, name_or_none, is_shadow_id, device_tests, bucket_tests, is_row_of, is_row, parent_is_there, is_loop, table_tests, is_lawful}
use Rattle.crush_model.proofs.Reorder.{one_if, sum_by-map}
use Rattle.crush_model.proofs.Climbs.{is_below-absent}
use Rattle.crush_model.proofs.Weighs.{true_or_false, or_left, or_right, light_sums, light_total}
use Rattle.crush_units.specs.declared.limits.TheConstants.{DEVICE_IDS, FARTHEST_BUCKET_ID, HEAVIEST_DEVICE, LAST_TYPE, MOST_BUCKETS, MOST_CLASS_IDS, MOST_DEVICES}

and_left : (a b : Bool) → (a && b) ≡ true → a ≡ true
and_left true b h = refl
and_left false b h = absurd cc

and_right : (a b : Bool) → (a && b) ≡ true → b ≡ true
and_right true b h = h
and_right false b h = absurd cc

not_so : (a : Bool) → not a ≡ true → a ≡ false
not_so true h = absurd cc
not_so false h = refl

-- each of several tests holds
abbrev pub HoldEach : List Bool → Type 0
HoldEach [] = Unit {0}
HoldEach (b ∷ bs) = (b ≡ true) × HoldEach bs

holds_each : (bs : List Bool) → all_hold bs ≡ true → HoldEach bs
holds_each [] h = tt
holds_each (b ∷ bs) h = (and_left b (all_hold bs) h, holds_each bs (and_right b (all_hold bs) h))

-- if elements are distinct, each occurs at most once
module _ {X : Type 0} (same : X → X → Bool) (equal : (x y : X) → same x y ≡ true → x ≡ y) (itself : (x : X) → same x x ≡ true) where
  no_more : (x : X) (ys : List X) → list_any (same x) ys ≡ false → count_by (λ y. same y x) ys ≡ 0
  no_more x [] h = refl
  no_more x (y ∷ ys) h = ⊎_elim
      (λ e. absurd (let is : y ≡ x = equal y x e in let again : same x y ≡ true = ap (same x) is ∙ itself x in let not_it : same x y ≡ false = or_left (same x y) (list_any (same x) ys) h in cc))
      (λ e. let none_here : one_if (same y x) ≡ 0 = ap one_if e in omega (arith, none_here, sum_by-cons (λ z. one_if (same z x)) y ys, no_more x ys (or_right (same x y) (list_any (same x) ys) h)))
      (true_or_false (same y x))

  pub apart_once : (xs : List X) → are_apart same xs ≡ true → (x : X) → count_by (λ y. same y x) xs ≤ 1
  apart_once [] h x = omega arith
  apart_once (y ∷ ys) h x = ⊎_elim
      (λ e. let is : y ≡ x = equal y x e in
      let alone : count_by (λ z. same z y) ys ≡ 0 = no_more y ys (not_so (list_any (same y) ys) (and_left (not (list_any (same y) ys)) (are_apart same ys) h)) in
      let others : count_by (λ z. same z x) ys ≡ 0 = ap (λ v. count_by (λ z. same z v) ys) (sym is) ∙ alone in
      let here : one_if (same y x) ≡ 1 = ap one_if e in omega (arith, here, others, sum_by-cons (λ z. one_if (same z x)) y ys))
      (λ e. let none_here : one_if (same y x) ≡ 0 = ap one_if e in omega (arith, none_here, sum_by-cons (λ z. one_if (same z x)) y ys, apart_once ys (and_right (not (list_any (same y) ys)) (are_apart same ys) h) x))
      (true_or_false (same y x))

pub bytes_itself : (n : List ℕ) → bytes_eq n n ≡ true
bytes_itself n = (bytes_eq-Decides n n).1 refl

pub bytes_equal : (m n : List ℕ) → bytes_eq m n ≡ true → m ≡ n
bytes_equal m n = (bytes_eq-Decides m n).0

-- ROWS
name_holds : (o : Option (List ℕ)) → name_or_none o ≡ true → IfSome o IsName
name_holds None h = tt
name_holds (Some n) h = is_name_holds n h

none_holds : {X : Type 0} (o : Option X) → is_none o ≡ true → o ≡ None
none_holds None h = refl
none_holds (Some x) h = absurd cc

empty_holds : {X : Type 0} (xs : List X) → (length xs == 0) ≡ true → xs ≡ []
empty_holds [] h = refl
empty_holds (x ∷ xs) h = absurd (let e : length (x ∷ xs) ≡ 0 = eqb-true (length (x ∷ xs)) 0 h in omega (arith, e))

unplaced_holds : (o : Option ℕ) (w : ℕ) → (is_some o || (w == 0)) ≡ true → o ≡ None → w ≡ 0
unplaced_holds None w h e = eqb-true w 0 h
unplaced_holds (Some p) w h e = absurd cc

some_holds : {X : Type 0} (o : Option X) → is_some o ≡ true → o ≡ None → ⊥
some_holds None h e = cc
some_holds (Some x) h e = cc

class_holds : (c : ShadowData) → is_shadow_id c ≡ true → IsShadowId c
class_holds c h =
    let parts = holds_each (nat_lt 0 c.id ∷ (nat_le c.id FARTHEST_BUCKET_ID ∷ (is_name c.class ∷ []))) h in
    record { some = ltb-true 0 c.id parts.0; most = leb-true c.id FARTHEST_BUCKET_ID parts.1.0; class = is_name_holds c.class parts.1.1.0 }

row_of_holds : (i : ItemId) (r : Row) → is_row_of i r ≡ true → IsRowOf i r
row_of_holds (Device d) r h =
    let parts = holds_each (device_tests d r) h in
    record {
      id = ltb-true d DEVICE_IDS parts.0;
      kind = eqb-true r.kind 0 parts.1.0;
      light = leb-true r.weight HEAVIEST_DEVICE parts.1.1.0;
      unplaced = unplaced_holds r.parent r.weight parts.1.1.1.0;
      alg = none_holds r.alg parts.1.1.1.1.0;
      class_ids = empty_holds r.class_ids parts.1.1.1.1.1.0;
      class = name_holds r.class parts.1.1.1.1.1.1.0;
    }
row_of_holds (Bucket b) r h =
    let parts = holds_each (bucket_tests b r) h in
    record {
      some = ltb-true 0 b parts.0;
      most = leb-true b FARTHEST_BUCKET_ID parts.1.0;
      kind_some = ltb-true 0 r.kind parts.1.1.0;
      kind_most = leb-true r.kind LAST_TYPE parts.1.1.1.0;
      weight = eqb-true r.weight 0 parts.1.1.1.1.0;
      class = none_holds r.class parts.1.1.1.1.1.0;
      alg = some_holds r.alg parts.1.1.1.1.1.1.0;
      class_ids = All-weaker (λ (c : ShadowData). is_shadow_id c ≡ true) IsShadowId class_holds r.class_ids (AllPass-from_list_all is_shadow_id r.class_ids parts.1.1.1.1.1.1.1.0);
      few = leb-true (length r.class_ids) MOST_CLASS_IDS parts.1.1.1.1.1.1.1.1.0;
      classes = λ c. subst (λ n. n ≤ 1) (sum_by-map (λ m. one_if (bytes_eq m c)) (λ (x : ShadowData). x.class) r.class_ids) (apart_once bytes_eq bytes_equal bytes_itself (map (λ (x : ShadowData). x.class) r.class_ids) parts.1.1.1.1.1.1.1.1.1.0 c);
    }

row_holds : (r : Row) → is_row r ≡ true → IsRow r
row_holds r h = let parts = holds_each (is_name r.name ∷ (is_row_of r.id r ∷ [])) h in record { name = is_name_holds r.name parts.0; form = row_of_holds r.id r parts.1.0 }

parent_holds : (t : List Row) (o : Option ℕ) → parent_is_there t o ≡ true → IfSome o (λ p. is_there t (Bucket p) ≡ true)
parent_holds t None h = tt
parent_holds t (Some p) h = h

-- no row is below itself
no_loop : (t u : List Row) → list_any (λ (r : Row). is_loop t r.id) u ≡ false → (b : ℕ) → is_there u (Bucket b) ≡ true → is_below t b (Bucket b) ≡ false
no_loop t [] h b there = absurd cc
no_loop t (r ∷ u) h b there = ⊎_elim
    (λ p. ap (is_loop t) (sym p.1) ∙ or_left (is_loop t r.id) (list_any (λ (x : Row). is_loop t x.id) u) h)
    (λ p. no_loop t u (or_right (is_loop t r.id) (list_any (λ (x : Row). is_loop t x.id) u) h) b (sym (ap (λ z. is_some (if z then Some r else row_of u (Bucket b))) p.0) ∙ there))
    (same_id_tells r.id (Bucket b))

-- THE TEST holds only of lawful tables
pub Lawful-tested : (t : List Row) → is_lawful t ≡ true → Lawful t
Lawful-tested t h =
    let parts = holds_each (table_tests t) h in
    let parents : All (HasParent t) t = All-weaker (λ (r : Row). parent_is_there t r.parent ≡ true) (HasParent t) (λ r. parent_holds t r.parent) t (AllPass-from_list_all (λ (r : Row). parent_is_there t r.parent) t parts.1.1.1.1.0) in
    let light : is_too_heavy t ≡ false = not_so (is_too_heavy t) parts.1.1.1.1.1.1.0 in
    let room : has_too_many t ≡ false = not_so (has_too_many t) parts.1.1.1.1.1.1.1.0 in
    record {
      ids = λ i. subst (λ n. n ≤ 1) (sum_by-map (λ j. one_if (same_id j i)) (λ (r : Row). r.id) t) (apart_once same_id same_id_equal same_id_refl (map (λ (r : Row). r.id) t) parts.0 i);
      names = λ n. subst (λ c. c ≤ 1) (sum_by-map (λ m. one_if (bytes_eq m n)) (λ (r : Row). r.name) t) (apart_once bytes_eq bytes_equal bytes_itself (map (λ (r : Row). r.name) t) parts.1.0 n);
      used = apart_once (λ a b. a == b) eqb-true (λ a. eq-eqb a a refl) (used_ids t) parts.1.1.0;
      rows = All-weaker (λ (r : Row). is_row r ≡ true) IsRow row_holds t (AllPass-from_list_all is_row t parts.1.1.1.0);
      parents = parents;
      loops = λ b. ⊎_elim (no_loop t t (not_so (list_any (λ (r : Row). is_loop t r.id) t) parts.1.1.1.1.1.0) b) (λ gone. is_below-absent t parents b gone (Bucket b)) (true_or_false (is_there t (Bucket b)));
      sums = light_sums t parents light;
      total = light_total t light;
      devices = ltb-false MOST_DEVICES (device_count t) (or_left (nat_lt MOST_DEVICES (device_count t)) (nat_lt MOST_BUCKETS (bucket_count t)) room);
      buckets = ltb-false MOST_BUCKETS (bucket_count t) (or_right (nat_lt MOST_DEVICES (device_count t)) (nat_lt MOST_BUCKETS (bucket_count t)) room);
    }
