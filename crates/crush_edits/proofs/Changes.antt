-- When an edit changes the table.
use Rattle.std.proofs.Common.{◌≡◌, ℕ, suc, ◌+◌, ◌<◌, ◌≤◌, Bool, true, false, List, [], ◌∷◌, ◌++◌, length, refl, ap, sym, ◌∙◌, arith, eq-eqb, ⊎_elim, nat_eq}
use Rattle.std.specs.Prelude.{◌==◌, ◌&&◌, ◌||◌, not, if◌then◌else◌, Option, Some, None, All, is_some, option_and_then, unwrap_or, bytes_eq}
use Rattle.std.specs.List.{count_by, list_all}
use Rattle.std.specs.Option.{option_map, option_eq}
use Rattle.std.proofs.lemmas.Bool.{and_parts, eqb-true}
use Rattle.std.proofs.lemmas.List.{length-append}
use Rattle.std.proofs.lemmas.List.Elements.{All-nil, All-cons}
use Rattle.std.proofs.lemmas.List.Sums.{sum_by-cons}
use Rattle.std.proofs.lemmas.Slice.Eq.{bytes_eq-Decides}
use lib.Pointwise.{pointwise}
use Rattle.crush_units.specs.declared.id.ItemId.{ItemId}
use Rattle.crush_units.specs.declared.id.ItemId.TheVariants.{Bucket}
use Rattle.crush_units.specs.declared.alg.Alg.{Alg}
use Rattle.crush_units.specs.Alg.{same_alg, alg_number}
use Rattle.crush_units.specs.Id.{same_id}
use Rattle.crush_units.specs.Name.{IsName}
use Rattle.crush_units.proofs.Ids.{same_id_refl, same_id_tells, same_id_comm, same_id_equal}
use Rattle.crush_model.specs.Items.{ShadowData}
use Rattle.crush_model.specs.Table.{Row, row_of, row_named, is_there, is_named, name_of, own_weight_of, class_of}
use Rattle.crush_model.specs.Lawful.{IsRow, Lawful}
use Rattle.crush_model.specs.Columns.{set_weights, set_weight, set_name, set_class, exchange_id, exchange_names, swap_buckets, without_row}
use Rattle.crush_model.specs.Count.{one_if}
use Rattle.crush_model.proofs.Found.{times, times-cons, is_there-times}
use Rattle.crush_model.proofs.Appended.{unnamed}
use Rattle.crush_model.proofs.Kept.{row_of-map, is_there-map, Distinct-map}
use Rattle.crush_model.proofs.Moved.{row_id, found_id}
use Rattle.crush_model.proofs.Changes.{with_name-id}
use Rattle.crush_model.proofs.Renamed.{named-set_name, All-row}
use Rattle.crush_model.proofs.Weighs.{true_or_false}
use Rattle.crush_edits.specs.Changed.{same_class, same_row, same_table}

and_true3 : (b : Bool) → (true && true && true && true && b && true && true && true) ≡ b
and_true3 true = refl
and_true3 false = refl

and_true : (b : Bool) → (b && true) ≡ b
and_true true = refl
and_true false = refl

-- each comparison finds a value equal to itself
eqb_refl : (n : ℕ) → (n == n) ≡ true
eqb_refl n = eq-eqb n n refl

pointwise_refl : {X : Type 0} (p : X → X → Bool) → ((x : X) → p x x ≡ true) → (xs : List X) → pointwise p xs xs ≡ true
pointwise_refl p h [] = refl
pointwise_refl p h (x ∷ xs) = λ i. h x i && pointwise_refl p h xs i

bytes_refl : (n : List ℕ) → bytes_eq n n ≡ true
bytes_refl n = pointwise_refl nat_eq eqb_refl n

option_refl : {X : Type 0} (p : X → X → Bool) → ((x : X) → p x x ≡ true) → (o : Option X) → option_eq p o o ≡ true
option_refl p h None = refl
option_refl p h (Some x) = h x

alg_refl : (a : Alg) → same_alg a a ≡ true
alg_refl a = eqb_refl (alg_number a)

class_refl : (c : ShadowData) → same_class c c ≡ true
class_refl c = λ i. eqb_refl c.id i && bytes_refl c.class i

-- two rows that differ at most in their weights
row_weight : (r : Row) (w : ℕ) → same_row r (record r { weight = w }) ≡ (r.weight == w)
row_weight r w = (λ i. same_id_refl r.id i && eqb_refl r.kind i && bytes_refl r.name i && option_refl nat_eq eqb_refl r.parent i && (r.weight == w) && option_refl bytes_eq bytes_refl r.class i && option_refl same_alg alg_refl r.alg i && pointwise_refl same_class class_refl r.class_ids i)
    ∙ and_true3 (r.weight == w)

row_refl : (r : Row) → same_row r r ≡ true
row_refl r = row_weight r r.weight ∙ eqb_refl r.weight

-- a table is the same as itself
pub table_refl : (t : List Row) → same_table t t ≡ true
table_refl t = pointwise_refl same_row row_refl t

-- if no row has the id, setting its weight changes nothing
absent : (i : ItemId) (w : ℕ) (t : List Row) → times i t ≡ 0 → same_table t (set_weight i w t) ≡ true
absent i w [] h = refl
absent i w (r ∷ t) h = ⊎_elim
    (λ p. absurd (let one : one_if (same_id r.id i) ≡ 1 = ap one_if p.0 in omega (arith, one, h, times-cons i r t)))
    (λ p. let rest = absent i w t (omega (arith, h, times-cons i r t)) in
    (λ k. same_row r (if p.0 k then record r { weight = w } else r) && rest k) ∙ (λ k. row_refl r k && true))
    (same_id_tells r.id i)

-- setting an item's weight changes the table if and only if the weight is another one
pub same_weight : (i : ItemId) (w v : ℕ) (t : List Row) → times i t ≤ 1 → own_weight_of t i ≡ Some v → same_table t (set_weight i w t) ≡ (v == w)
same_weight i w v [] h e = cc
same_weight i w v (r ∷ t) h e = ⊎_elim
    (λ p. let one : one_if (same_id r.id i) ≡ 1 = ap one_if p.0 in
    let rest = absent i w t (omega (arith, one, h, times-cons i r t)) in
    let own : Some r.weight ≡ Some v = (λ k. option_map (λ (x : Row). x.weight) (if sym p.0 k then Some r else row_of t i)) ∙ e in
    let weight : r.weight ≡ v = cc in
    (λ k. same_row r (if p.0 k then record r { weight = w } else r) && rest k) ∙ (λ k. row_weight r w k && true) ∙ and_true (r.weight == w) ∙ ap (λ x. x == w) weight)
    (λ p. let own : own_weight_of t i ≡ Some v = (λ k. option_map (λ (x : Row). x.weight) (if sym p.0 k then Some r else row_of t i)) ∙ e in
    let rest = same_weight i w v t (omega (arith, h, times-cons i r t)) own in
    (λ k. same_row r (if p.0 k then record r { weight = w } else r) && rest k) ∙ (λ k. row_refl r k && (v == w)))
    (same_id_tells r.id i)

-- ANOTHER CLASS
and_true5 : (b : Bool) → (true && true && true && true && true && b && true && true) ≡ b
and_true5 true = refl
and_true5 false = refl

row_class : (r : Row) (c : Option (List ℕ)) → same_row r (record r { class = c }) ≡ option_eq bytes_eq r.class c
row_class r c = (λ i. same_id_refl r.id i && eqb_refl r.kind i && bytes_refl r.name i && option_refl nat_eq eqb_refl r.parent i && eqb_refl r.weight i && option_eq bytes_eq r.class c && option_refl same_alg alg_refl r.alg i && pointwise_refl same_class class_refl r.class_ids i)
    ∙ and_true5 (option_eq bytes_eq r.class c)

absent_class : (i : ItemId) (c : Option (List ℕ)) (t : List Row) → times i t ≡ 0 → same_table t (set_class i c t) ≡ true
absent_class i c [] h = refl
absent_class i c (r ∷ t) h = ⊎_elim
    (λ p. absurd (let one : one_if (same_id r.id i) ≡ 1 = ap one_if p.0 in omega (arith, one, h, times-cons i r t)))
    (λ p. let rest = absent_class i c t (omega (arith, h, times-cons i r t)) in
    (λ k. same_row r (if p.0 k then record r { class = c } else r) && rest k) ∙ (λ k. row_refl r k && true))
    (same_id_tells r.id i)

same_classes : (i : ItemId) (c : Option (List ℕ)) (t : List Row) → times i t ≤ 1 → is_there t i ≡ true → same_table t (set_class i c t) ≡ option_eq bytes_eq (class_of t i) c
same_classes i c [] h e = absurd cc
same_classes i c (r ∷ t) h e = ⊎_elim
    (λ p. let one : one_if (same_id r.id i) ≡ 1 = ap one_if p.0 in
    let rest = absent_class i c t (omega (arith, one, h, times-cons i r t)) in
    (λ k. same_row r (if p.0 k then record r { class = c } else r) && rest k) ∙ (λ k. row_class r c k && true) ∙ and_true (option_eq bytes_eq r.class c)
    ∙ (λ k. option_eq bytes_eq (option_and_then (λ (x : Row). x.class) (if sym p.0 k then Some r else row_of t i)) c))
    (λ p. let there : is_there t i ≡ true = (λ k. is_some (if sym p.0 k then Some r else row_of t i)) ∙ e in
    let rest = same_classes i c t (omega (arith, h, times-cons i r t)) there in
    (λ k. same_row r (if p.0 k then record r { class = c } else r) && rest k) ∙ (λ k. row_refl r k && option_eq bytes_eq (class_of t i) c)
    ∙ (λ k. option_eq bytes_eq (option_and_then (λ (x : Row). x.class) (if sym p.0 k then Some r else row_of t i)) c))
    (same_id_tells r.id i)

pub class_changes : (t : List Row) (i : ItemId) (c : Option (List ℕ)) → Lawful t → is_there t i ≡ true → same_table t (set_class i c t) ≡ option_eq bytes_eq (class_of t i) c
class_changes t i c l there = same_classes i c t (l.ids i) there

-- NEW WEIGHTS of the rows that a test names
row_or : (r : Row) (w : ℕ) (b : Bool) → same_row r (if b then record r { weight = w } else r) ≡ (not b || (r.weight == w))
row_or r w true = row_weight r w
row_or r w false = row_refl r

pub same_weights : (which : Row → Bool) (w : ℕ) (t : List Row) → same_table t (set_weights which w t) ≡ list_all (λ (r : Row). not (which r) || (r.weight == w)) t
same_weights which w [] = refl
same_weights which w (r ∷ t) = λ k. row_or r w (which r) k && same_weights which w t k

-- if setting the weights leaves an equal table, then each row is as it was
row_kept : (r : Row) (w : ℕ) (b : Bool) → (not b || (r.weight == w)) ≡ true → (if b then record r { weight = w } else r) ≡ r
row_kept r w true h = ap (λ v. record r { weight = v }) (sym (eqb-true r.weight w h))
row_kept r w false h = refl

all_kept : (which : Row → Bool) (w : ℕ) (t : List Row) → list_all (λ (r : Row). not (which r) || (r.weight == w)) t ≡ true → set_weights which w t ≡ t
all_kept which w [] h = refl
all_kept which w (r ∷ t) h =
    let parts = and_parts (not (which r) || (r.weight == w)) (list_all (λ (x : Row). not (which x) || (x.weight == w)) t) h in
    λ k. row_kept r w (which r) parts.0 k ∷ all_kept which w t parts.1 k

pub weights_kept : (which : Row → Bool) (w : ℕ) (t : List Row) → same_table t (set_weights which w t) ≡ true → set_weights which w t ≡ t
weights_kept which w t h = all_kept which w t (sym (same_weights which w t) ∙ h)

-- EQUAL TABLES have the same length and the same names
pub same_length : (t u : List Row) → same_table t u ≡ true → length t ≡ length u
same_length [] [] e = refl
same_length [] (s ∷ u) e = absurd cc
same_length (r ∷ t) [] e = absurd cc
same_length (r ∷ t) (s ∷ u) e = ap suc (same_length t u (and_parts (same_row r s) (same_table t u) e).1)

names_of : (a b c d e f g h : Bool) → (a && b && c && d && e && f && g && h) ≡ true → (a ≡ true) × (c ≡ true)
names_of false b c d e f g h p = absurd cc
names_of true false c d e f g h p = absurd cc
names_of true true false d e f g h p = absurd cc
names_of true true true d e f g h p = (refl, refl)

same_columns : (r s : Row) → same_row r s ≡ true → (same_id r.id s.id ≡ true) × (bytes_eq r.name s.name ≡ true)
same_columns r s e = names_of (same_id r.id s.id) (r.kind == s.kind) (bytes_eq r.name s.name) (option_eq nat_eq r.parent s.parent) (r.weight == s.weight) (option_eq bytes_eq r.class s.class) (option_eq same_alg r.alg s.alg) (pointwise same_class r.class_ids s.class_ids) e

pub same_names : (n : List ℕ) (t u : List Row) → same_table t u ≡ true → count_by (λ (r : Row). bytes_eq r.name n) t ≡ count_by (λ (r : Row). bytes_eq r.name n) u
same_names n [] [] e = refl
same_names n [] (s ∷ u) e = absurd cc
same_names n (r ∷ t) [] e = absurd cc
same_names n (r ∷ t) (s ∷ u) e =
    let both = and_parts (same_row r s) (same_table t u) e in
    let name : r.name ≡ s.name = (bytes_eq-Decides r.name s.name).0 (same_columns r s both.0).1 in
    let here : one_if (bytes_eq r.name n) ≡ one_if (bytes_eq s.name n) = ap (λ m. one_if (bytes_eq m n)) name in
    omega (arith, here, sum_by-cons (λ (x : Row). one_if (bytes_eq x.name n)) r t, sum_by-cons (λ (x : Row). one_if (bytes_eq x.name n)) s u, same_names n t u both.1)

pub same_name_of : (t u : List Row) → same_table t u ≡ true → (i : ItemId) → name_of t i ≡ name_of u i
same_name_of [] [] e i = refl
same_name_of [] (s ∷ u) e i = absurd cc
same_name_of (r ∷ t) [] e i = absurd cc
same_name_of (r ∷ t) (s ∷ u) e i =
    let both = and_parts (same_row r s) (same_table t u) e in
    let two = same_columns r s both.0 in
    by_id (same_id r.id i) (same_id s.id i) (ap (λ j. same_id j i) (same_id_equal r.id s.id two.0)) ((bytes_eq-Decides r.name s.name).0 two.1) (same_name_of t u both.1 i) where
      by_id : (b c : Bool) → b ≡ c → r.name ≡ s.name → name_of t i ≡ name_of u i → option_map (λ (x : Row). x.name) (if b then Some r else row_of t i) ≡ option_map (λ (x : Row). x.name) (if c then Some s else row_of u i)
      by_id true true f p rest = ap Some p
      by_id false false f p rest = rest
      by_id true false f p rest = absurd cc
      by_id false true f p rest = absurd cc

-- so tables of different lengths are different
pub other_length : (t u : List Row) → (length t ≡ length u → ⊥) → same_table t u ≡ false
other_length t u h = ⊎_elim (λ e. absurd (h (same_length t u e))) (λ e. e) (true_or_false (same_table t u))

-- A NAME that no row has
none_named : (t : List Row) (n : List ℕ) → is_named t n ≡ false → All (λ (r : Row). bytes_eq r.name n ≡ false) t
none_named [] n h = All-nil (λ (r : Row). bytes_eq r.name n ≡ false)
none_named (r ∷ t) n h = by_name (bytes_eq r.name n) refl h (none_named t n) where
  by_name : (b : Bool) → bytes_eq r.name n ≡ b → is_some (option_map (λ (x : Row). x.id) (if b then Some r else row_named t n)) ≡ false → (is_named t n ≡ false → All (λ (x : Row). bytes_eq x.name n ≡ false) t) → All (λ (x : Row). bytes_eq x.name n ≡ false) (r ∷ t)
  by_name true e g rest = absurd cc
  by_name false e g rest = All-cons (λ (x : Row). bytes_eq x.name n ≡ false) r t e (rest g)

pub other_name : (t : List Row) (i : ItemId) (n : List ℕ) → Lawful t → is_there t i ≡ true → is_named t n ≡ false → same_table t (set_name i n t) ≡ false
other_name t i n l there gone = by_row (row_of t i) refl there where
  by_row : (o : Option Row) → row_of t i ≡ o → is_some o ≡ true → same_table t (set_name i n t) ≡ false
  by_row None e h = absurd cc
  by_row (Some r) e h = ⊎_elim
      (λ same. let one : one_if (bytes_eq n n) ≡ 1 = ap one_if (bytes_refl n) in
      let none : one_if (bytes_eq r.name n) ≡ 0 = ap one_if (All-row (λ (x : Row). bytes_eq x.name n ≡ false) t (none_named t n gone) i r e) in
      absurd (omega (arith, one, none, unnamed t n gone, same_names n t (set_name i n t) same, named-set_name i n n t r (l.ids i) e)))
      (λ e. e)
      (true_or_false (same_table t (set_name i n t)))

-- TWO BUCKETS
with_parent-name : (a b : ℕ) (o : Option Row) → option_map (λ (x : Row). x.name) (option_map (λ (r : Row). record r { parent = option_map (exchange_id a b) r.parent }) o) ≡ option_map (λ (x : Row). x.name) o
with_parent-name a b None = refl
with_parent-name a b (Some r) = refl

other_name_of : (i j : ItemId) (m : List ℕ) (v : List Row) (o : Option Row) → row_of v i ≡ o → is_some o ≡ true → name_of (set_name i m v) i ≡ Some m
other_name_of i j m v None e h = absurd cc
other_name_of i j m v (Some r) e h =
    ap (option_map (λ (x : Row). x.name)) (row_of-map (λ (x : Row). if same_id x.id i then record x { name = m } else x) (λ x. with_name-id i m x) v i)
    ∙ ap (λ q. option_map (λ (x : Row). x.name) (option_map (λ (x : Row). if same_id x.id i then record x { name = m } else x) q)) e
    ∙ ap (λ b. Some (if b then record r { name = m } else r).name) (found_id i v r e)

-- no name occurs twice, so different buckets have different names
names_differ : (t : List Row) → Lawful t → (a b : ℕ) (r s : Row) → row_of t (Bucket a) ≡ Some r → row_of t (Bucket b) ≡ Some s → (a == b) ≡ false → r.name ≡ s.name → ⊥
names_differ t l a b r s e g apart same =
    let new : List Row = set_name (Bucket a) [] t in
    let is_b : same_id s.id (Bucket a) ≡ false = ap (λ i. same_id i (Bucket a)) (row_id (Bucket b) t s g) ∙ (same_id_comm (Bucket b) (Bucket a) ∙ apart) in
    let still : row_of (set_name (Bucket a) [] t) (Bucket b) ≡ Some s =
    row_of-map (λ (x : Row). if same_id x.id (Bucket a) then record x { name = [] } else x) (λ x. with_name-id (Bucket a) [] x) t (Bucket b)
    ∙ ap (option_map (λ (x : Row). if same_id x.id (Bucket a) then record x { name = [] } else x)) g ∙ ap (λ c. Some (if c then record s { name = [] } else s)) is_b in
    let once : times (Bucket b) (set_name (Bucket a) [] t) ≤ 1 = Distinct-map (λ (x : Row). if same_id x.id (Bucket a) then record x { name = [] } else x) (λ x. with_name-id (Bucket a) [] x) t l.ids (Bucket b) in
    let first = named-set_name (Bucket a) [] r.name t r (l.ids (Bucket a)) e in
    let second = named-set_name (Bucket b) [] r.name (set_name (Bucket a) [] t) s once still in
    let own : one_if (bytes_eq r.name r.name) ≡ 1 = ap one_if (bytes_refl r.name) in
    let other : one_if (bytes_eq s.name r.name) ≡ 1 = ap (λ n. one_if (bytes_eq n r.name)) (sym same) ∙ own in
    let form : IsName r.name = (All-row IsRow t l.rows (Bucket a) r e).name in
    let none : one_if (bytes_eq [] r.name) ≡ 0 = empty_name r.name form.some in
    omega (arith, l.names r.name, first, second, own, other, none) where
      empty_name : (n : List ℕ) → 0 < length n → one_if (bytes_eq [] n) ≡ 0
      empty_name [] h = absurd (omega (arith, h))
      empty_name (x ∷ n) h = refl

pub other_swap : (t : List Row) (a b : ℕ) → Lawful t → is_there t (Bucket a) ≡ true → is_there t (Bucket b) ≡ true → (a == b) ≡ false → same_table t (swap_buckets a b t) ≡ false
other_swap t a b l here there apart = by_rows (row_of t (Bucket a)) (row_of t (Bucket b)) refl refl here there where
  by_rows : (o q : Option Row) → row_of t (Bucket a) ≡ o → row_of t (Bucket b) ≡ q → is_some o ≡ true → is_some q ≡ true → same_table t (swap_buckets a b t) ≡ false
  by_rows None q e g h k = absurd cc
  by_rows (Some r) None e g h k = absurd cc
  by_rows (Some r) (Some s) e g h k = ⊎_elim
      (λ same. absurd (let new : List ℕ = unwrap_or (name_of t (Bucket b)) [] in
      let old : List ℕ = unwrap_or (name_of t (Bucket a)) [] in
      let still : is_some (row_of (set_name (Bucket b) (unwrap_or (name_of t (Bucket a)) []) t) (Bucket a)) ≡ true =
      is_there-map (λ (x : Row). if same_id x.id (Bucket b) then record x { name = unwrap_or (name_of t (Bucket a)) [] } else x) (λ x. with_name-id (Bucket b) (unwrap_or (name_of t (Bucket a)) []) x) t (Bucket a) ∙ here in
      let after : name_of (swap_buckets a b t) (Bucket a) ≡ Some (unwrap_or (name_of t (Bucket b)) []) =
      ap (option_map (λ (x : Row). x.name)) (row_of-map (λ (x : Row). record x { parent = option_map (exchange_id a b) x.parent }) (λ x. refl) (exchange_names a b t) (Bucket a))
      ∙ with_parent-name a b (row_of (exchange_names a b t) (Bucket a))
      ∙ other_name_of (Bucket a) (Bucket b) (unwrap_or (name_of t (Bucket b)) []) (set_name (Bucket b) (unwrap_or (name_of t (Bucket a)) []) t) (row_of (set_name (Bucket b) (unwrap_or (name_of t (Bucket a)) []) t) (Bucket a)) refl still in
      let before : Some r.name ≡ Some (unwrap_or (name_of t (Bucket b)) []) = ap (option_map (λ (x : Row). x.name)) (sym e) ∙ same_name_of t (swap_buckets a b t) same (Bucket a) ∙ after in
      let named : unwrap_or (name_of t (Bucket b)) [] ≡ s.name = ap (λ o. unwrap_or (option_map (λ (x : Row). x.name) o) []) g in
      names_differ t l a b r s e g apart (let one : r.name ≡ s.name = cc in one)))
      (λ e. e)
      (true_or_false (same_table t (swap_buckets a b t)))

-- A ROW that is removed
shorter : (t : List Row) (i : ItemId) → length (without_row i t) + times i t ≡ length t
shorter [] i = refl
shorter (r ∷ t) i = ⊎_elim
    (λ p. let one : one_if (same_id r.id i) ≡ 1 = ap one_if p.0 in
    ap (λ b. length (if not b then r ∷ without_row i t else without_row i t) + times i (r ∷ t)) p.0 ∙ omega (arith, one, times-cons i r t, shorter t i))
    (λ p. let none : one_if (same_id r.id i) ≡ 0 = ap one_if p.0 in
    ap (λ b. length (if not b then r ∷ without_row i t else without_row i t) + times i (r ∷ t)) p.0 ∙ omega (arith, none, times-cons i r t, shorter t i))
    (same_id_tells r.id i)

pub other_without : (t : List Row) (i : ItemId) → is_there t i ≡ true → same_table t (without_row i t) ≡ false
other_without t i there = other_length t (without_row i t) (λ e. omega (arith, e, shorter t i, is_there-times t i there))

-- ROWS that are appended
pub other_with : (t rows : List Row) → 0 < length rows → same_table t (t ++ rows) ≡ false
other_with t rows some = other_length t (t ++ rows) (λ e. omega (arith, e, some, length-append t rows))
