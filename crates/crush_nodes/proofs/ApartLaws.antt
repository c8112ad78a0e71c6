-- What follows from the tests of ids and names: how often each key of a row occurs, among items and in a table.
use Rattle.std.proofs.Common.{◌≡◌, ℕ, zero, suc, ◌+◌, ◌≤◌, Bool, true, false, List, [], ◌∷◌, ◌++◌, ap, sym, subst, ◌∙◌, refl, arith, eq-eqb, ⊎_elim, inl, inr, ◌⊎◌}
use Rattle.std.specs.Prelude.{◌==◌, ◌&&◌, ◌||◌, not, if◌then◌else◌, Option, Some, None, is_some, bytes_eq, nat_lt}
use Rattle.std.specs.Option.{option_map}
use Rattle.std.specs.List.{count_by, list_any}
use Rattle.std.proofs.lemmas.Bool.{ltb-false, eqb-true}
use Rattle.std.proofs.lemmas.Bool.Decides.{eqb_tells}
use Rattle.std.proofs.lemmas.List.Sums.{sum_by-append, sum_by-cons}
use Rattle.std.proofs.lemmas.Slice.Eq.{bytes_eq-Decides}
use Rattle.std.proofs.lemmas.Grind.{flat_map-append}
use Rattle.crush_units.specs.declared.id.ItemId.{ItemId}
use Rattle.crush_units.specs.declared.id.ItemId.TheVariants.{Device, Bucket}
use Rattle.crush_units.specs.Id.{same_id}
use Rattle.crush_units.proofs.Ids.{same_id_tells, same_id_refl}
use Rattle.crush_model.specs.Items.{LeafData, HeaderData, Items, none, device, bucket}
use Rattle.crush_model.specs.Reordered.{IsReordered}
use Rattle.crush_model.specs.Forest.{ForestData, rows_of}
use Rattle.crush_model.specs.ItemRows.{rows, device_row, bucket_row}
use Rattle.crush_model.specs.Stands.{Stands}
use Rattle.crush_model.specs.Table.{Row, row_named, is_named, member, used_ids}
use Rattle.crush_model.specs.Tested.{are_apart}
use Rattle.crush_model.proofs.Appended.{unnamed, times-used, unused_times}
use Rattle.crush_model.proofs.Climbs.{eqb_turned}
use Rattle.crush_model.proofs.Found.{times, times-cons, times-append}
use Rattle.crush_model.proofs.Reorder.{reordered-count}
use Rattle.crush_model.specs.Count.{one_if}
use Rattle.crush_model.proofs.Same.{uses, times_used, times_used-rows, times_used-same, member-count}
use Rattle.crush_model.proofs.Tested.{apart_once}
use Rattle.crush_model.proofs.Weighs.{or_left, or_right, true_or_false}
use Rattle.crush_nodes.specs.Apart.{header_uses, AreApart, header_ids, leaf_shares_a_key, header_shares_a_key, shares_a_key, bucket_has_distinct_keys, have_distinct_keys, uses_in}
use Rattle.crush_nodes.specs.Ops.{count_of_id}
use Rattle.crush_nodes.specs.Search.{id_in}
use Rattle.crush_nodes.proofs.ReadLaws.{id_in-rows}
use Rattle.crush_nodes.proofs.RowLaws.{rows-join, times-rows}
use Rattle.crush_nodes.proofs.StoredLaws.{first_of, second_of}

-- USED IDS
or_assoc : (a b c : Bool) → (a || (b || c)) ≡ ((a || b) || c)
or_assoc true b c = refl
or_assoc false b c = refl

member-append : (b : ℕ) (xs ys : List ℕ) → member b (xs ++ ys) ≡ (member b xs || member b ys)
member-append b [] ys = refl
member-append b (x ∷ xs) ys = ap (λ z. (x == b) || z) (member-append b xs ys) ∙ or_assoc (x == b) (member b xs) (member b ys)

uses_in-rows : (b : ℕ) (p : Option ℕ) (n : Items) → uses_in b n ≡ member b (used_ids (rows p n))
uses_in-rows b p none = refl
uses_in-rows b p (device d r) = uses_in-rows b p r
uses_in-rows b p (bucket h w m k r) =
    let below = rows (Some h.id) k in
    let after = rows p r in
    let both : (uses_in b k || uses_in b r) ≡ member b (used_ids (below ++ after)) =
    (λ i. uses_in-rows b (Some h.id) k i || uses_in-rows b p r i) ∙ sym (member-append b (used_ids below) (used_ids after)) ∙ sym (ap (member b) (flat_map-append uses below after)) in
    ap (λ z. header_uses b h || z) both ∙ sym (member-append b (uses (bucket_row p h)) (used_ids (below ++ after)))

-- KEYS: an id, a name, and a number that a bucket or a class id has; how many rows have it
data Key : Type 0 where
  Id : ItemId → Key
  Name : List ℕ → Key
  Use : ℕ → Key

abbrev named : List ℕ → List Row → ℕ
named n t = count_by (λ (r : Row). bytes_eq r.name n) t

abbrev often : Key → List Row → ℕ
often (Id i) t = times i t
often (Name n) t = named n t
often (Use k) t = times_used k t

named-cons : (n : List ℕ) (r : Row) (t : List Row) → named n (r ∷ t) ≡ one_if (bytes_eq r.name n) + named n t
named-cons n r t = sum_by-cons (λ (x : Row). one_if (bytes_eq x.name n)) r t

often-append : (k : Key) (t u : List Row) → often k (t ++ u) ≡ often k t + often k u
often-append (Id i) t u = times-append i t u
often-append (Name n) t u = sum_by-append (λ (r : Row). one_if (bytes_eq r.name n)) t u
often-append (Use k) t u =
    omega (arith, times_used-rows k (t ++ u), times_used-rows k t, times_used-rows k u, sum_by-append (λ (r : Row). count_by (λ x. x == k) (uses r)) t u)

often-same : (k : Key) (t u : List Row) → IsReordered t u → often k t ≡ often k u
often-same (Id i) t u p = reordered-count (λ (r : Row). same_id r.id i) p
often-same (Name n) t u p = reordered-count (λ (r : Row). bytes_eq r.name n) p
often-same (Use k) t u p = times_used-same t u p k

-- each key occurs at most once
abbrev Once : List Row → Type 0
Once t = (k : Key) → often k t ≤ 1

once_apart : (t : List Row) → Once t → AreApart t
once_apart t o = record { ids = λ i. o (Id i); names = λ n. o (Name n); used = λ k. o (Use k) }

apart_is_once : (t : List Row) → AreApart t → Once t
apart_is_once t a (Id i) = a.ids i
apart_is_once t a (Name n) = a.names n
apart_is_once t a (Use k) = a.used k

-- one of two numbers is 0
abbrev Either0 : ℕ → ℕ → Type 0
Either0 a b = (a ≡ 0) ⊎ (b ≡ 0)

once_both : (a b : ℕ) → a ≤ 1 → b ≤ 1 → Either0 a b → a + b ≤ 1
once_both a b h k e = ⊎_elim (λ z. omega (arith, z)) (λ z. omega (arith, z)) e

either : (a b : ℕ) → a + b ≤ 1 → Either0 a b
either zero b h = inl refl
either (suc a) b h = inr (omega arith)

either_left : (a b c : ℕ) → Either0 (a + b) c → Either0 a c
either_left a b c e = ⊎_elim (λ z. inl (omega (arith, z))) inr e

either_right : (a b c : ℕ) → Either0 (a + b) c → Either0 b c
either_right a b c e = ⊎_elim (λ z. inl (omega (arith, z))) inr e

either_plus : (a b c : ℕ) → Either0 a c → Either0 b c → Either0 (a + b) c
either_plus a b c e f = ⊎_elim (λ y. ⊎_elim (λ z. inl (omega (arith, y, z))) inr f) inr e

-- no key is in both
abbrev Unmet : List Row → List Row → Type 0
Unmet t u = (k : Key) → Either0 (often k t) (often k u)

-- ROWS of items, one after the other
often-device : (k : Key) (p : Option ℕ) (d : LeafData) (r : Items) → often k (rows p (device d r)) ≡ often k (device_row p d ∷ []) + often k (rows p r)
often-device k p d r = often-append k (device_row p d ∷ []) (rows p r)

often-bucket : (k : Key) (p : Option ℕ) (h : HeaderData) (w m : ℕ) (s r : Items)
    → often k (rows p (bucket h w m s r)) ≡ often k (bucket_row p h ∷ []) + (often k (rows (Some h.id) s) + often k (rows p r))
often-bucket k p h w m s r =
    often-append k (bucket_row p h ∷ []) (rows (Some h.id) s ++ rows p r) ∙ ap (λ z. often k (bucket_row p h ∷ []) + z) (often-append k (rows (Some h.id) s) (rows p r))

often-nil : (k : Key) → often k [] ≡ 0
often-nil (Id i) = refl
often-nil (Name n) = refl
often-nil (Use k) = refl

-- the parent is no key
one_device : (k : Key) (p q : Option ℕ) (d : LeafData) → often k (device_row p d ∷ []) ≡ often k (device_row q d ∷ [])
one_device (Id i) p q d = refl
one_device (Name n) p q d = refl
one_device (Use k) p q d = refl

one_bucket : (k : Key) (p q : Option ℕ) (h : HeaderData) → often k (bucket_row p h ∷ []) ≡ often k (bucket_row q h ∷ [])
one_bucket (Id i) p q h = refl
one_bucket (Name n) p q h = refl
one_bucket (Use k) p q h = refl

often-parent : (k : Key) (p q : Option ℕ) (n : Items) → often k (rows p n) ≡ often k (rows q n)
often-parent k p q none = refl
often-parent k p q (device d r) = omega (arith, often-device k p d r, often-device k q d r, one_device k p q d, often-parent k p q r)
often-parent k p q (bucket h w m s r) = omega (arith, often-bucket k p h w m s r, often-bucket k q h w m s r, one_bucket k p q h, often-parent k p q r)

-- WHAT IS NOT THERE
absent_id : (i : ItemId) (q : Option ℕ) (o : Items) → nat_lt 0 (count_of_id i o) ≡ false → times i (rows q o) ≡ 0
absent_id i q o h = omega (arith, times-rows i q o, ltb-false 0 (count_of_id i o) h)

absent_name : (n : List ℕ) (q : Option ℕ) (o : Items) → is_some (id_in n o) ≡ false → named n (rows q o) ≡ 0
absent_name n q o h = unnamed (rows q o) n (sym (ap is_some (id_in-rows n q o)) ∙ h)

absent_use : (k : ℕ) (q : Option ℕ) (o : Items) → uses_in k o ≡ false → times_used k (rows q o) ≡ 0
absent_use k q o h = unused_times (rows q o) k (sym (uses_in-rows k q o) ∙ h)

no_id : (i : ItemId) (q : Option ℕ) (o : Items) → times i (rows q o) ≡ 0 → nat_lt 0 (count_of_id i o) ≡ false
no_id i q o h = ap (nat_lt 0) (sym (times-rows i q o) ∙ h)

no_use : (k : ℕ) (q : Option ℕ) (o : Items) → times_used k (rows q o) ≡ 0 → uses_in k o ≡ false
no_use k q o h = uses_in-rows k q o ∙ member-count k (used_ids (rows q o)) ∙ ap (nat_lt 0) h

nobody : (t : List Row) (n : List ℕ) → named n t ≡ 0 → is_named t n ≡ false
nobody [] n h = refl
nobody (r ∷ t) n h = by_name (bytes_eq r.name n) (named-cons n r t) (nobody t n) where
  by_name : (b : Bool) → named n (r ∷ t) ≡ one_if b + named n t → (named n t ≡ 0 → is_named t n ≡ false) → is_some (option_map (λ (x : Row). x.id) (if b then Some r else row_named t n)) ≡ false
  by_name true e ih = absurd (omega (arith, e, h))
  by_name false e ih = ih (omega (arith, e, h))

no_name : (n : List ℕ) (q : Option ℕ) (o : Items) → named n (rows q o) ≡ 0 → is_some (id_in n o) ≡ false
no_name n q o h = ap is_some (id_in-rows n q o) ∙ nobody (rows q o) n h

-- if no number of a list passes a test, then a number isn't in the list or fails the test
out_of : (f : ℕ → Bool) (xs : List ℕ) (u : ℕ) → list_any f xs ≡ false → (count_by (λ x. x == u) xs ≡ 0) ⊎ (f u ≡ false)
out_of f [] u h = inl refl
out_of f (x ∷ xs) u h = ⊎_elim
    (λ p. inr (ap f (sym p.1) ∙ or_left (f x) (list_any f xs) h))
    (λ p. let other : one_if (x == u) ≡ 0 = ap one_if p.0 in ⊎_elim (λ z. inl (omega (arith, z, other, sum_by-cons (λ y. one_if (y == u)) x xs))) inr (out_of f xs u (or_right (f x) (list_any f xs) h)))
    (eqb_tells x u)

self : (x : ℕ) → one_if (x == x) ≡ 1
self x = ap one_if (eq-eqb x x refl)

none_of_all : (f : ℕ → Bool) (xs : List ℕ) → ((u : ℕ) → (count_by (λ x. x == u) xs ≡ 0) ⊎ (f u ≡ false)) → list_any f xs ≡ false
none_of_all f [] h = refl
none_of_all f (x ∷ xs) h =
    let first : f x ≡ false = ⊎_elim (λ z. absurd (omega (arith, z, self x, sum_by-cons (λ y. one_if (y == x)) x xs))) (λ z. z) (h x) in
    let rest = none_of_all f xs (λ u. ⊎_elim (λ z. inl (omega (arith, z, sum_by-cons (λ y. one_if (y == u)) x xs))) inr (h u)) in
    λ j. first j || rest j

-- ONE ROW and others
hit_le : (b : Bool) → one_if b ≤ 1
hit_le true = omega arith
hit_le false = omega arith

one_name : (n m : List ℕ) (r : Row) → r.name ≡ m → (named m (r ∷ []) ≡ 1)
one_name n m r e = let own : one_if (bytes_eq r.name m) ≡ 1 = ap one_if ((bytes_eq-Decides r.name m).1 e) in omega (arith, own, named-cons m r [])

by_name : (n m : List ℕ) (r : Row) (u : List Row) → r.name ≡ m → named m u ≡ 0 → Either0 (named n (r ∷ [])) (named n u)
by_name n m r u e h = ⊎_elim
    (λ yes. inr (ap (λ z. named z u) (sym ((bytes_eq-Decides r.name n).0 yes) ∙ e) ∙ h))
    (λ no. let other : one_if (bytes_eq r.name n) ≡ 0 = ap one_if no in inl (omega (arith, other, named-cons n r [])))
    (true_or_false (bytes_eq r.name n))

by_id : (i j : ItemId) (r : Row) (u : List Row) → r.id ≡ j → times j u ≡ 0 → Either0 (times i (r ∷ [])) (times i u)
by_id i j r u e h = ⊎_elim
    (λ p. inr (ap (λ z. times z u) (sym p.1 ∙ e) ∙ h))
    (λ p. let other : one_if (same_id r.id i) ≡ 0 = ap one_if p.0 in inl (omega (arith, other, times-cons i r [])))
    (same_id_tells r.id i)

one_id : (r : Row) → times r.id (r ∷ []) ≡ 1
one_id r = let own : one_if (same_id r.id r.id) ≡ 1 = ap one_if (same_id_refl r.id) in omega (arith, own, times-cons r.id r [])

one_use : (k : ℕ) (p : Option ℕ) (h : HeaderData) → times_used k (bucket_row p h ∷ []) ≡ count_by (λ x. x == k) (header_ids h)
one_use k p h = omega (arith, times_used-rows k (bucket_row p h ∷ []), sum_by-cons (λ (r : Row). count_by (λ x. x == k) (uses r)) (bucket_row p h) [])

right0 : (a b : ℕ) → 1 ≤ a → Either0 a b → b ≡ 0
right0 a b h e = ⊎_elim (λ z. absurd (omega (arith, h, z))) (λ z. z) e

-- a device
leaf_unmet : (d : LeafData) (o : Items) (p q : Option ℕ) → leaf_shares_a_key d o ≡ false → Unmet (device_row p d ∷ []) (rows q o)
leaf_unmet d o p q h (Id i) = by_id i (Device d.id) (device_row p d) (rows q o) refl (absent_id (Device d.id) q o (or_left (nat_lt 0 (count_of_id (Device d.id) o)) (is_some (id_in d.name o)) h))
leaf_unmet d o p q h (Name n) = by_name n d.name (device_row p d) (rows q o) refl (absent_name d.name q o (or_right (nat_lt 0 (count_of_id (Device d.id) o)) (is_some (id_in d.name o)) h))
leaf_unmet d o p q h (Use k) = inl refl

unmet_leaf : (d : LeafData) (o : Items) (p q : Option ℕ) → Unmet (device_row p d ∷ []) (rows q o) → leaf_shares_a_key d o ≡ false
unmet_leaf d o p q u =
    let row = device_row p d in
    let new : nat_lt 0 (count_of_id (Device d.id) o) ≡ false = no_id (Device d.id) q o (right0 (times (Device d.id) (row ∷ [])) (times (Device d.id) (rows q o)) (omega (arith, one_id row)) (u (Id (Device d.id)))) in
    let free : is_some (id_in d.name o) ≡ false = no_name d.name q o (right0 (named d.name (row ∷ [])) (named d.name (rows q o)) (omega (arith, one_name d.name d.name row refl)) (u (Name d.name))) in
    λ j. new j || free j

-- a bucket
module _ (h : HeaderData) (o : Items) (p q : Option ℕ) where
  header_unmet : header_shares_a_key h o ≡ false → Unmet (bucket_row p h ∷ []) (rows q o)
  header_unmet e (Id i) =
      let own : uses_in h.id o ≡ false = or_left (uses_in h.id o) _ (or_left (list_any (λ k. uses_in k o) (header_ids h)) (is_some (id_in h.name o)) e) in
      by_id i (Bucket h.id) (bucket_row p h) (rows q o) refl (omega (arith, times-used (rows q o) h.id, absent_use h.id q o own))
  header_unmet e (Name n) = by_name n h.name (bucket_row p h) (rows q o) refl (absent_name h.name q o (or_right (list_any (λ k. uses_in k o) (header_ids h)) (is_some (id_in h.name o)) e))
  header_unmet e (Use k) = ⊎_elim
      (λ z. inl (one_use k p h ∙ z))
      (λ z. inr (absent_use k q o z))
      (out_of (λ u. uses_in u o) (header_ids h) k (or_left (list_any (λ u. uses_in u o) (header_ids h)) (is_some (id_in h.name o)) e))

  unmet_header : Unmet (bucket_row p h ∷ []) (rows q o) → header_shares_a_key h o ≡ false
  unmet_header u =
      let row = bucket_row p h in
      let free : is_some (id_in h.name o) ≡ false = no_name h.name q o (right0 (named h.name (row ∷ [])) (named h.name (rows q o)) (omega (arith, one_name h.name h.name row refl)) (u (Name h.name))) in
      let new : list_any (λ k. uses_in k o) (header_ids h) ≡ false = none_of_all (λ k. uses_in k o) (header_ids h) (λ k. ⊎_elim (λ z. inl (sym (one_use k p h) ∙ z)) (λ z. inr (no_use k q o z)) (u (Use k))) in
      λ j. new j || free j

-- ITEMS and others
shares_unmet : (n o : Items) (p q : Option ℕ) → shares_a_key n o ≡ false → Unmet (rows p n) (rows q o)
shares_unmet none o p q h k = inl (often-nil k)
shares_unmet (device d r) o p q h k =
    subst (λ z. Either0 z (often k (rows q o))) (sym (often-device k p d r))
    (either_plus _ _ _ (leaf_unmet d o p q (or_left (leaf_shares_a_key d o) (shares_a_key r o) h) k) (shares_unmet r o p q (or_right (leaf_shares_a_key d o) (shares_a_key r o) h) k))
shares_unmet (bucket x w m s r) o p q h k =
    let rest = or_right (header_shares_a_key x o) (shares_a_key s o || shares_a_key r o) h in
    subst (λ z. Either0 z (often k (rows q o))) (sym (often-bucket k p x w m s r))
    (either_plus _ _ _ (header_unmet x o p q (or_left (header_shares_a_key x o) (shares_a_key s o || shares_a_key r o) h) k)
    (either_plus _ _ _ (shares_unmet s o (Some x.id) q (or_left (shares_a_key s o) (shares_a_key r o) rest) k) (shares_unmet r o p q (or_right (shares_a_key s o) (shares_a_key r o) rest) k)))

unmet_shares : (n o : Items) (p q : Option ℕ) → Unmet (rows p n) (rows q o) → shares_a_key n o ≡ false
unmet_shares none o p q u = refl
unmet_shares (device d r) o p q u =
    let parts : (k : Key) → Either0 (often k (device_row p d ∷ []) + often k (rows p r)) (often k (rows q o)) = λ k. subst (λ z. Either0 z (often k (rows q o))) (often-device k p d r) (u k) in
    λ j. unmet_leaf d o p q (λ k. either_left _ _ _ (parts k)) j || unmet_shares r o p q (λ k. either_right _ _ _ (parts k)) j
unmet_shares (bucket x w m s r) o p q u =
    let parts : (k : Key) → Either0 (often k (bucket_row p x ∷ []) + (often k (rows (Some x.id) s) + often k (rows p r))) (often k (rows q o)) = λ k. subst (λ z. Either0 z (often k (rows q o))) (often-bucket k p x w m s r) (u k) in
    let below : (k : Key) → Either0 (often k (rows (Some x.id) s) + often k (rows p r)) (often k (rows q o)) = λ k. either_right (often k (bucket_row p x ∷ [])) _ _ (parts k) in
    λ j. unmet_header x o p q (λ k. either_left _ _ _ (parts k)) j || (unmet_shares s o (Some x.id) q (λ k. either_left _ _ _ (below k)) j || unmet_shares r o p q (λ k. either_right _ _ _ (below k)) j)

-- ITEMS among themselves
device_once : (p : Option ℕ) (d : LeafData) → Once (device_row p d ∷ [])
device_once p d (Id i) = omega (arith, times-cons i (device_row p d) [], hit_le (same_id (Device d.id) i))
device_once p d (Name n) = omega (arith, named-cons n (device_row p d) [], hit_le (bytes_eq d.name n))
device_once p d (Use k) = omega arith

turned : (x : ℕ) → ◌≡◌ {A = ℕ → Bool} (λ y. x == y) (λ y. y == x)
turned x = λ j y. eqb_turned x y j

numbers_once : (xs : List ℕ) → are_apart (λ a b. b == a) xs ≡ true → (k : ℕ) → count_by (λ x. x == k) xs ≤ 1
numbers_once xs h k = subst (λ f. count_by f xs ≤ 1) (turned k) (apart_once (λ a b. b == a) (λ x y e. sym (eqb-true y x e)) (λ x. eq-eqb x x refl) xs h k)

once_numbers : (xs : List ℕ) → ((k : ℕ) → count_by (λ x. x == k) xs ≤ 1) → are_apart (λ a b. b == a) xs ≡ true
once_numbers [] h = refl
once_numbers (x ∷ xs) h =
    let as_only_item : count_by (λ y. y == x) xs ≡ 0 = omega (arith, h x, self x, sum_by-cons (λ y. one_if (y == x)) x xs) in
    let no_other : list_any (λ b. b == x) xs ≡ false = none_of_all (λ b. b == x) xs (λ u. ⊎_elim (λ e. inl (ap (λ z. count_by (λ y. y == z) xs) e.1 ∙ as_only_item)) (λ e. inr e.0) (eqb_tells u x)) in
    let rest = once_numbers xs (λ k. omega (arith, h k, sum_by-cons (λ y. one_if (y == k)) x xs)) in
    λ j. not (no_other j) && rest j

bucket_once : (p : Option ℕ) (h : HeaderData) → are_apart (λ a b. b == a) (header_ids h) ≡ true → Once (bucket_row p h ∷ [])
bucket_once p h e (Id i) = omega (arith, times-cons i (bucket_row p h) [], hit_le (same_id (Bucket h.id) i))
bucket_once p h e (Name n) = omega (arith, named-cons n (bucket_row p h) [], hit_le (bytes_eq h.name n))
bucket_once p h e (Use k) = omega (arith, one_use k p h, numbers_once (header_ids h) e k)

not_so : (a : Bool) → not a ≡ true → a ≡ false
not_so true h = absurd cc
not_so false h = refl

-- the row of a bucket shares no key with the rows below it, and neither shares one with the rows after them
three : (a b c : ℕ) → a ≤ 1 → b ≤ 1 → c ≤ 1 → Either0 a b → Either0 (a + (b + 0)) c → a + (b + c) ≤ 1
three a b c x y z e f = ⊎_elim (λ u. ⊎_elim (λ v. omega (arith, u, v)) (λ v. omega (arith, u, v)) f) (λ u. ⊎_elim (λ v. omega (arith, u, v)) (λ v. omega (arith, u, v)) f) e

distinct_once : (n : Items) (p : Option ℕ) → have_distinct_keys n ≡ true → Once (rows p n)
distinct_once none p h k = omega (arith, often-nil k)
distinct_once (device d r) p h k =
    let apart = shares_unmet (device d none) r p p (not_so (shares_a_key (device d none) r) (first_of (not (shares_a_key (device d none) r)) (have_distinct_keys r) h)) k in
    subst (λ z. z ≤ 1) (sym (often-device k p d r)) (once_both (often k (device_row p d ∷ [])) (often k (rows p r)) (device_once p d k) (distinct_once r p (second_of (not (shares_a_key (device d none) r)) (have_distinct_keys r) h) k) apart)
distinct_once (bucket x w m s r) p h k =
    let whole : Items = bucket x w m s none in
    let rest = second_of (not (shares_a_key whole r)) (bucket_has_distinct_keys x s && (have_distinct_keys s && have_distinct_keys r)) h in
    let as_only_item = first_of (bucket_has_distinct_keys x s) (have_distinct_keys s && have_distinct_keys r) rest in
    let both = second_of (bucket_has_distinct_keys x s) (have_distinct_keys s && have_distinct_keys r) rest in
    let own = first_of (are_apart (λ a b. b == a) (header_ids x)) (not (header_shares_a_key x s)) as_only_item in
    let below = not_so (header_shares_a_key x s) (second_of (are_apart (λ a b. b == a) (header_ids x)) (not (header_shares_a_key x s)) as_only_item) in
    let after : Either0 (often k (rows p whole)) (often k (rows p r)) = shares_unmet whole r p p (not_so (shares_a_key whole r) (first_of (not (shares_a_key whole r)) (bucket_has_distinct_keys x s && (have_distinct_keys s && have_distinct_keys r)) h)) k in
    let parts : often k (rows p whole) ≡ often k (bucket_row p x ∷ []) + (often k (rows (Some x.id) s) + 0) = often-bucket k p x w m s none ∙ ap (λ z. often k (bucket_row p x ∷ []) + (often k (rows (Some x.id) s) + z)) (often-nil k) in
    subst (λ z. z ≤ 1) (sym (often-bucket k p x w m s r))
    (three (often k (bucket_row p x ∷ [])) (often k (rows (Some x.id) s)) (often k (rows p r)) (bucket_once p x own k) (distinct_once s (Some x.id) (first_of (have_distinct_keys s) (have_distinct_keys r) both) k)
    (distinct_once r p (second_of (have_distinct_keys s) (have_distinct_keys r) both) k) (header_unmet x s p (Some x.id) below k) (subst (λ z. Either0 z (often k (rows p r))) parts after))

once_distinct : (n : Items) (p : Option ℕ) → Once (rows p n) → have_distinct_keys n ≡ true
once_distinct none p o = refl
once_distinct (device d r) p o =
    let parts : (k : Key) → often k (device_row p d ∷ []) + often k (rows p r) ≤ 1 = λ k. subst (λ z. z ≤ 1) (often-device k p d r) (o k) in
    let apart : shares_a_key (device d none) r ≡ false = unmet_shares (device d none) r p p (λ k. either _ _ (parts k)) in
    let rest = once_distinct r p (λ k. omega (arith, parts k)) in
    λ j. not (apart j) && rest j
once_distinct (bucket x w m s r) p o =
    let whole : Items = bucket x w m s none in
    let parts : (k : Key) → often k (bucket_row p x ∷ []) + (often k (rows (Some x.id) s) + often k (rows p r)) ≤ 1 = λ k. subst (λ z. z ≤ 1) (often-bucket k p x w m s r) (o k) in
    let apart : shares_a_key whole r ≡ false = unmet_shares whole r p p (λ k. either _ _ (omega (arith, parts k, often-bucket k p x w m s none, often-nil k))) in
    let below : header_shares_a_key x s ≡ false = unmet_header x s p (Some x.id) (λ k. either _ _ (omega (arith, parts k))) in
    let own : are_apart (λ a b. b == a) (header_ids x) ≡ true = once_numbers (header_ids x) (λ k. omega (arith, parts (Use k), one_use k p x)) in
    let kids = once_distinct s (Some x.id) (λ k. omega (arith, parts k)) in
    let rest = once_distinct r p (λ k. omega (arith, parts k)) in
    λ j. not (apart j) && ((own j && not (below j)) && (kids j && rest j))

-- THE FOREST: an item that shares no key with both lists of a forest shares none with each table that the forest represents
module _ (f : ForestData) (t : List Row) (n : Items) (p : Option ℕ) (s : Stands f t) where
  often_there : (k : Key) → often k t ≡ often k (rows None f.unplaced) + often k (rows None f.roots)
  often_there k = sym (often-same k (rows_of f) t s.same.rows) ∙ ap (often k) (rows-join None f.unplaced f.roots) ∙ often-append k (rows None f.unplaced) (rows None f.roots)

  law : Once t
  law = apart_is_once t (record { ids = s.lawful.ids; names = s.lawful.names; used = s.lawful.used })

  pub tested_apart : have_distinct_keys n ≡ true → shares_a_key n f.roots ≡ false → shares_a_key n f.unplaced ≡ false → AreApart (t ++ rows p n)
  tested_apart d r u = once_apart (t ++ rows p n) each where
    each : Once (t ++ rows p n)
    each k =
        let past : Either0 (often k (rows None f.unplaced) + often k (rows None f.roots)) (often k (rows p n)) = either_plus _ _ _ (turn (shares_unmet n f.unplaced p None u k)) (turn (shares_unmet n f.roots p None r k)) in
        subst (λ z. z ≤ 1) (sym (often-append k t (rows p n))) (once_both (often k t) (often k (rows p n)) (law k) (distinct_once n p d k) (subst (λ z. Either0 z (often k (rows p n))) (sym (often_there k)) past)) where
          turn : {a b : ℕ} → Either0 a b → Either0 b a
          turn e = ⊎_elim inr inl e

  module _ (a : AreApart (t ++ rows p n)) where
    both : (k : Key) → (often k (rows None f.unplaced) + often k (rows None f.roots)) + often k (rows p n) ≤ 1
    both k = subst (λ z. z ≤ 1) (often-append k t (rows p n) ∙ ap (λ z. z + often k (rows p n)) (often_there k)) (apart_is_once (t ++ rows p n) a k)

    pub apart_distinct : have_distinct_keys n ≡ true
    apart_distinct = once_distinct n p (λ k. omega (arith, both k))

    pub apart_roots : shares_a_key n f.roots ≡ false
    apart_roots = unmet_shares n f.roots p None (λ k. either _ _ (omega (arith, both k)))

    pub apart_unplaced : shares_a_key n f.unplaced ≡ false
    apart_unplaced = unmet_shares n f.unplaced p None (λ k. either _ _ (omega (arith, both k)))

-- the parent of the new rows doesn't matter
pub AreApart-parent : (t : List Row) (n : Items) (p q : Option ℕ) → AreApart (t ++ rows p n) → AreApart (t ++ rows q n)
AreApart-parent t n p q a = once_apart (t ++ rows q n) (λ k. omega (arith, apart_is_once (t ++ rows p n) a k, often-append k t (rows p n), often-append k t (rows q n), often-parent k p q n))

pub below_none : (n : Items) → shares_a_key n none ≡ false
below_none n = unmet_shares n none None None (λ k. inr (often-nil k))

pub alone_told : (h : HeaderData) (w m : ℕ) (s : Items) → bucket_has_distinct_keys h s ≡ true → have_distinct_keys s ≡ have_distinct_keys (bucket h w m s none)
alone_told h w m s e = ends (have_distinct_keys s) ∙ sym (λ j. not (below_none (bucket h w m s none) j) && (e j && (have_distinct_keys s && true))) where
  ends : (b : Bool) → b ≡ (b && true)
  ends true = refl
  ends false = refl
