-- Looking up a row by its id or its name.
use Rattle.std.proofs.Common.{◌≡◌, ℕ, zero, suc, ◌+◌, ◌≤◌, true, false, List, [], ◌∷◌, ◌++◌, ap, sym, ◌∙◌, refl, arith, ⊎_elim}
use Rattle.std.specs.Prelude.{if◌then◌else◌, Some, None, find, is_some, option_and_then, bytes_eq}
use Rattle.std.specs.List.{count_by}
use Rattle.std.specs.Option.{option_map}
use Rattle.std.proofs.lemmas.List.Sums.{sum_by-append, sum_by-cons}
use Rattle.crush_units.specs.declared.id.ItemId.{ItemId}
use Rattle.crush_units.specs.Id.{same_id}
use Rattle.crush_units.proofs.Ids.{same_id_refl, same_id_tells}
use Rattle.crush_model.specs.Reordered.{IsReordered}
use Rattle.crush_model.specs.Table.{Row, row_of, row_named, id_named, is_named, is_there, kind_of, name_of, own_weight_of, class_of, alg_of, parent_of, is_placed}
use Rattle.crush_model.proofs.Reorder.{one_if, reordered-count, reordered-find}

-- no two rows have the same id, or the same name
abbrev pub Distinct : List Row → Type 0
Distinct t = (i : ItemId) → count_by (λ (r : Row). same_id r.id i) t ≤ 1

abbrev pub DistinctNames : List Row → Type 0
DistinctNames t = (n : List ℕ) → count_by (λ (r : Row). bytes_eq r.name n) t ≤ 1

-- how many rows have the id
abbrev pub times : ItemId → List Row → ℕ
times i t = count_by (λ (r : Row). same_id r.id i) t

pub times-cons : (i : ItemId) (r : Row) (t : List Row) → times i (r ∷ t) ≡ one_if (same_id r.id i) + times i t
times-cons i r t = sum_by-cons (λ (x : Row). one_if (same_id x.id i)) r t

pub times-append : (i : ItemId) (t u : List Row) → times i (t ++ u) ≡ times i t + times i u
times-append i t u = sum_by-append (λ (x : Row). one_if (same_id x.id i)) t u

pub Distinct-tail : (r : Row) (t : List Row) → Distinct (r ∷ t) → Distinct t
Distinct-tail r t d i = omega (arith, d i, times-cons i r t)

pub row_of-find : (t : List Row) (i : ItemId) → row_of t i ≡ find (λ (r : Row). same_id r.id i) t
row_of-find [] i = refl
row_of-find (r ∷ t) i = ap (λ z. if same_id r.id i then Some r else z) (row_of-find t i)

pub row_named-find : (t : List Row) (n : List ℕ) → row_named t n ≡ find (λ (r : Row). bytes_eq r.name n) t
row_named-find [] n = refl
row_named-find (r ∷ t) n = ap (λ z. if bytes_eq r.name n then Some r else z) (row_named-find t n)

-- in a table with distinct ids, each row is the one that is found by its id
pub row_at : (front : List Row) (r : Row) (back : List Row) → times r.id (front ++ r ∷ back) ≤ 1 → row_of (front ++ r ∷ back) r.id ≡ Some r
row_at [] r back h = ap (λ b. if b then Some r else row_of back r.id) (same_id_refl r.id)
row_at (x ∷ front) r back h = ⊎_elim
    (λ p. absurd (let one : one_if (same_id x.id r.id) ≡ 1 = ap one_if p.0 in let own : one_if (same_id r.id r.id) ≡ 1 = ap one_if (same_id_refl r.id) in
    omega (arith, one, own, h, times-cons r.id x (front ++ r ∷ back), times-append r.id front (r ∷ back), times-cons r.id r back)))
    (λ p. ap (λ b. if b then Some x else row_of (front ++ r ∷ back) r.id) p.0 ∙ row_at front r back (omega (arith, h, times-cons r.id x (front ++ r ∷ back))))
    (same_id_tells x.id r.id)

pub parent_at : (front : List Row) (r : Row) (back : List Row) → times r.id (front ++ r ∷ back) ≤ 1 → parent_of (front ++ r ∷ back) r.id ≡ r.parent
parent_at front r back h = ap (option_and_then (λ (x : Row). x.parent)) (row_at front r back h)

-- the row that is found has the id; if no row has the id, none is found
pub row_of-absent : (t : List Row) (i : ItemId) → times i t ≡ 0 → row_of t i ≡ None
row_of-absent [] i h = refl
row_of-absent (r ∷ t) i h = ⊎_elim
    (λ p. absurd (let one : one_if (same_id r.id i) ≡ 1 = ap one_if p.0 in omega (arith, one, h, times-cons i r t)))
    (λ p. ap (λ b. if b then Some r else row_of t i) p.0 ∙ row_of-absent t i (omega (arith, h, times-cons i r t)))
    (same_id_tells r.id i)

pub is_there-times : (t : List Row) (i : ItemId) → is_there t i ≡ true → 1 ≤ times i t
is_there-times [] i h = absurd cc
is_there-times (r ∷ t) i h = ⊎_elim
    (λ p. let one : one_if (same_id r.id i) ≡ 1 = ap one_if p.0 in omega (arith, one, times-cons i r t))
    (λ p. let rest : is_there t i ≡ true = sym (ap (λ b. is_some (if b then Some r else row_of t i)) p.0) ∙ h in omega (arith, is_there-times t i rest, times-cons i r t))
    (same_id_tells r.id i)

pub times-is_there : (t : List Row) (i : ItemId) → 1 ≤ times i t → is_there t i ≡ true
times-is_there [] i h = absurd (omega arith)
times-is_there (r ∷ t) i h = ⊎_elim
    (λ p. ap (λ b. is_some (if b then Some r else row_of t i)) p.0)
    (λ p. let no : one_if (same_id r.id i) ≡ 0 = ap one_if p.0 in ap (λ b. is_some (if b then Some r else row_of t i)) p.0 ∙ times-is_there t i (omega (arith, no, h, times-cons i r t)))
    (same_id_tells r.id i)

pub times-absent : (t : List Row) (i : ItemId) → is_there t i ≡ false → times i t ≡ 0
times-absent t i h = none_of (times i t) (λ some. absurd (let there : is_there t i ≡ true = times-is_there t i some in cc)) where
  none_of : (n : ℕ) → (1 ≤ n → n ≡ 0) → n ≡ 0
  none_of zero f = refl
  none_of (suc n) f = f (omega arith)

-- if a table has distinct ids, then a table with the same rows in another order has the same row for each id and each name
pub Distinct-same : {t u : List Row} → IsReordered t u → Distinct t → Distinct u
Distinct-same p d i = omega (arith, d i, reordered-count (λ (x : Row). same_id x.id i) p)

pub row_of-same : (t u : List Row) → IsReordered t u → Distinct t → (i : ItemId) → row_of t i ≡ row_of u i
row_of-same t u p d i = row_of-find t i ∙ reordered-find (λ (r : Row). same_id r.id i) p (d i) ∙ sym (row_of-find u i)

pub row_named-same : (t u : List Row) → IsReordered t u → DistinctNames t → (n : List ℕ) → row_named t n ≡ row_named u n
row_named-same t u p d n = row_named-find t n ∙ reordered-find (λ (r : Row). bytes_eq r.name n) p (d n) ∙ sym (row_named-find u n)

pub id_named-same : (t u : List Row) → IsReordered t u → DistinctNames t → (n : List ℕ) → id_named t n ≡ id_named u n
id_named-same t u p d n = ap (option_map (λ (r : Row). r.id)) (row_named-same t u p d n)

pub is_named-same : (t u : List Row) → IsReordered t u → DistinctNames t → (n : List ℕ) → is_named t n ≡ is_named u n
is_named-same t u p d n = ap is_some (id_named-same t u p d n)

module _ (t u : List Row) (p : IsReordered t u) (d : Distinct t) (i : ItemId) where
  pub is_there-same : is_there t i ≡ is_there u i
  is_there-same = ap is_some (row_of-same t u p d i)

  pub kind_of-same : kind_of t i ≡ kind_of u i
  kind_of-same = ap (option_map (λ (r : Row). r.kind)) (row_of-same t u p d i)

  pub name_of-same : name_of t i ≡ name_of u i
  name_of-same = ap (option_map (λ (r : Row). r.name)) (row_of-same t u p d i)

  pub own_weight_of-same : own_weight_of t i ≡ own_weight_of u i
  own_weight_of-same = ap (option_map (λ (r : Row). r.weight)) (row_of-same t u p d i)

  pub class_of-same : class_of t i ≡ class_of u i
  class_of-same = ap (option_and_then (λ (r : Row). r.class)) (row_of-same t u p d i)

  pub alg_of-same : alg_of t i ≡ alg_of u i
  alg_of-same = ap (option_and_then (λ (r : Row). r.alg)) (row_of-same t u p d i)

  pub parent_of-same : parent_of t i ≡ parent_of u i
  parent_of-same = ap (option_and_then (λ (r : Row). r.parent)) (row_of-same t u p d i)

  pub is_placed-same : is_placed t i ≡ is_placed u i
  is_placed-same = ap is_some parent_of-same
