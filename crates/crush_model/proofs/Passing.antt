-- A lawful table passes the test.
use Rattle.std.proofs.Common.{◌≡◌, ℕ, ◌<◌, ◌≤◌, Bool, true, false, List, [], ◌∷◌, length, ap, sym, subst, ◌∙◌, refl, arith, eq-eqb, ⊎_elim}
use Rattle.std.specs.Prelude.{◌==◌, ◌||◌, ◌&&◌, not, Option, Some, None, IfSome, map, is_some, is_none, bytes_eq, nat_lt, nat_le}
use Rattle.std.specs.List.{count_by, list_any, list_all}
use Rattle.std.proofs.lemmas.Bool.{eqb-true, le-ltb}
use Rattle.std.proofs.lemmas.Bool.Decides.{nat_tests}
use Rattle.std.proofs.lemmas.List.Sums.{sum_by-cons, list_all-from_AllPass}
use Rattle.std.proofs.lemmas.List.Elements.{All-weaker}
use Rattle.crush_units.specs.declared.id.ItemId.{ItemId}
use Rattle.crush_units.specs.declared.id.ItemId.TheVariants.{Device, Bucket}
use Rattle.crush_units.specs.Id.{same_id}
use Rattle.crush_units.specs.Name.{IsName, is_name}
use Rattle.crush_units.proofs.Ids.{same_id_equal, same_id_refl}
use Rattle.crush_units.proofs.Names.{is_name_true}
use Rattle.crush_model.specs.Items.{ShadowData}
use Rattle.crush_model.specs.Table.{Row, is_there, used_ids, device_count, bucket_count}
use Rattle.crush_model.specs.Lawful.{IsShadowId, IsRow, IsRowOf, HasParent, Lawful, has_too_many}
use Rattle.crush_model.specs.Tested.{all_hold, are_apart, name_or_none, is_shadow_id, device_tests, bucket_tests, is_row_of, is_row, parent_is_there, is_loop, table_tests, is_lawful}
use Rattle.crush_model.proofs.Reorder.{one_if, sum_by-map}
use Rattle.crush_model.proofs.Tested.{HoldEach, bytes_itself, bytes_equal}
use Rattle.crush_model.proofs.Weighs.{true_or_false, lawful_light}
use Rattle.crush_units.specs.declared.limits.TheConstants.{DEVICE_IDS, FARTHEST_BUCKET_ID, HEAVIEST_DEVICE, LAST_TYPE, MOST_BUCKETS, MOST_CLASS_IDS, MOST_DEVICES}

-- if each of several tests holds, then the test of all of them holds
all_held : (bs : List Bool) → HoldEach bs → all_hold bs ≡ true
all_held [] h = refl
all_held (b ∷ bs) h = (λ k. h.0 k && all_hold bs) ∙ all_held bs h.1

lt_passes : (a b : ℕ) → a < b → nat_lt a b ≡ true
lt_passes a b h = grind (arith, nat_tests)

le_passes : (a b : ℕ) → a ≤ b → nat_le a b ≡ true
le_passes a b h = grind (arith, nat_tests)

-- if each element occurs at most once, then the elements are distinct
module _ {X : Type 0} (same : X → X → Bool) (equal : (x y : X) → same x y ≡ true → x ≡ y) (itself : (x : X) → same x x ≡ true) where
  none_same : (x : X) (ys : List X) → count_by (λ y. same y x) ys ≡ 0 → list_any (same x) ys ≡ false
  none_same x [] h = refl
  none_same x (y ∷ ys) h = ⊎_elim
      (λ e. absurd (let is : x ≡ y = equal x y e in let back : same y x ≡ true = ap (same y) is ∙ itself y in let one : one_if (same y x) ≡ 1 = ap one_if back in omega (arith, one, h, sum_by-cons (λ z. one_if (same z x)) y ys)))
      (λ e. (λ k. e k || list_any (same x) ys) ∙ none_same x ys (omega (arith, h, sum_by-cons (λ z. one_if (same z x)) y ys)))
      (true_or_false (same x y))

  pub once_apart : (xs : List X) → ((x : X) → count_by (λ y. same y x) xs ≤ 1) → are_apart same xs ≡ true
  once_apart [] h = refl
  once_apart (x ∷ xs) h =
      let own : one_if (same x x) ≡ 1 = ap one_if (itself x) in
      let alone : list_any (same x) xs ≡ false = none_same x xs (omega (arith, own, h x, sum_by-cons (λ z. one_if (same z x)) x xs)) in
      (λ k. not (alone k) && are_apart same xs) ∙ once_apart xs (λ y. omega (arith, h y, sum_by-cons (λ z. one_if (same z y)) x xs))

-- ROWS
name_passes : (o : Option (List ℕ)) → IfSome o IsName → name_or_none o ≡ true
name_passes None h = refl
name_passes (Some n) h = is_name_true n h

unplaced_passes : (o : Option ℕ) (w : ℕ) → (o ≡ None → w ≡ 0) → (is_some o || (w == 0)) ≡ true
unplaced_passes None w h = eq-eqb w 0 (h refl)
unplaced_passes (Some p) w h = refl

some_passes : {X : Type 0} (o : Option X) → (o ≡ None → ⊥) → is_some o ≡ true
some_passes None h = absurd (h refl)
some_passes (Some x) h = refl

class_passes : (c : ShadowData) → IsShadowId c → is_shadow_id c ≡ true
class_passes c h = all_held (nat_lt 0 c.id ∷ (nat_le c.id FARTHEST_BUCKET_ID ∷ (is_name c.class ∷ []))) (lt_passes 0 c.id h.some, (le_passes c.id FARTHEST_BUCKET_ID h.most, (is_name_true c.class h.class, tt)))

row_of_passes : (i : ItemId) (r : Row) → IsRowOf i r → is_row_of i r ≡ true
row_of_passes (Device d) r h =
    let none_there : (length r.class_ids == 0) ≡ true = ap (λ (c : List ShadowData). length c == 0) h.class_ids in
    all_held (device_tests d r) (
      lt_passes d DEVICE_IDS h.id,
      (eq-eqb r.kind 0 h.kind, (le_passes r.weight HEAVIEST_DEVICE h.light, (unplaced_passes r.parent r.weight h.unplaced, (ap is_none h.alg, (none_there, (name_passes r.class h.class, tt)))))),
    )
row_of_passes (Bucket b) r h =
    let shadows : list_all is_shadow_id r.class_ids ≡ true = list_all-from_AllPass is_shadow_id r.class_ids (All-weaker IsShadowId (λ (c : ShadowData). is_shadow_id c ≡ true) class_passes r.class_ids h.class_ids) in
    let classes : are_apart bytes_eq (map (λ (c : ShadowData). c.class) r.class_ids) ≡ true =
    once_apart bytes_eq bytes_equal bytes_itself (map (λ (c : ShadowData). c.class) r.class_ids) (λ c. subst (λ n. n ≤ 1) (sym (sum_by-map (λ m. one_if (bytes_eq m c)) (λ (x : ShadowData). x.class) r.class_ids)) (h.classes c)) in
    all_held (bucket_tests b r) (
      lt_passes 0 b h.some,
      (
        le_passes b FARTHEST_BUCKET_ID h.most,
        (
          lt_passes 0 r.kind h.kind_some,
          (
            le_passes r.kind LAST_TYPE h.kind_most,
            (
              eq-eqb r.weight 0 h.weight,
              (
                ap is_none h.class,
                (
                  some_passes r.alg h.alg,
                  (shadows, (le_passes (length r.class_ids) MOST_CLASS_IDS h.few, (classes, tt))),
                ),
              ),
            ),
          ),
        ),
      ),
    )

row_passes : (r : Row) → IsRow r → is_row r ≡ true
row_passes r h = all_held (is_name r.name ∷ (is_row_of r.id r ∷ [])) (is_name_true r.name h.name, (row_of_passes r.id r h.form, tt))

parent_passes : (t : List Row) (o : Option ℕ) → IfSome o (λ p. is_there t (Bucket p) ≡ true) → parent_is_there t o ≡ true
parent_passes t None h = refl
parent_passes t (Some p) h = h

no_loops : (t : List Row) → Lawful t → (u : List Row) → list_any (λ (r : Row). is_loop t r.id) u ≡ false
no_loops t l [] = refl
no_loops t l (r ∷ u) = (λ k. by_id r.id k || list_any (λ (x : Row). is_loop t x.id) u) ∙ no_loops t l u where
  by_id : (i : ItemId) → is_loop t i ≡ false
  by_id (Device d) = refl
  by_id (Bucket b) = l.loops b

-- a lawful table doesn't have too many items
pub lawful_room : (t : List Row) → Lawful t → has_too_many t ≡ false
lawful_room t l = λ k. le-ltb MOST_DEVICES (device_count t) l.devices k || le-ltb MOST_BUCKETS (bucket_count t) l.buckets k

-- THE TEST holds for each lawful table
pub Lawful-passes : (t : List Row) → Lawful t → is_lawful t ≡ true
Lawful-passes t l = all_held (table_tests t) (
  once_apart same_id same_id_equal same_id_refl (map (λ (r : Row). r.id) t) (λ i. subst (λ n. n ≤ 1) (sym (sum_by-map (λ j. one_if (same_id j i)) (λ (r : Row). r.id) t)) (l.ids i)),
  (
    once_apart bytes_eq bytes_equal bytes_itself (map (λ (r : Row). r.name) t) (λ n. subst (λ c. c ≤ 1) (sym (sum_by-map (λ m. one_if (bytes_eq m n)) (λ (r : Row). r.name) t)) (l.names n)),
    (
      once_apart (λ a b. a == b) eqb-true (λ a. eq-eqb a a refl) (used_ids t) l.used,
      (
        list_all-from_AllPass is_row t (All-weaker IsRow (λ (r : Row). is_row r ≡ true) row_passes t l.rows),
        (
          list_all-from_AllPass (λ (r : Row). parent_is_there t r.parent) t (All-weaker (HasParent t) (λ (r : Row). parent_is_there t r.parent ≡ true) (λ r. parent_passes t r.parent) t l.parents),
          (ap not (no_loops t l t), (ap not (lawful_light t l), (ap not (lawful_room t l), tt))),
        ),
      ),
    ),
  ),
)
