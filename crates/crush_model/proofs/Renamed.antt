-- A table stays lawful if an item gets a new name that no row has.
use Rattle.std.proofs.Common.{◌≡◌, ℕ, ◌+◌, ◌≤◌, Bool, true, false, List, [], ◌∷◌, ap, sym, subst, ◌∙◌, refl, arith, ⊎_elim}
use Rattle.std.specs.Prelude.{if◌then◌else◌, Some, All, is_some, bytes_eq}
use Rattle.std.specs.List.{sum_by, count_by}
use Rattle.std.proofs.lemmas.Slice.Eq.{bytes_eq-Decides}
use Rattle.std.proofs.lemmas.List.Sums.{sum_by-cons}
use Rattle.std.proofs.lemmas.List.Elements.{All-weaker, All-head, All-tail}
use Rattle.crush_units.specs.declared.id.ItemId.{ItemId}
use Rattle.crush_units.specs.Id.{same_id}
use Rattle.crush_units.specs.Name.{IsName}
use Rattle.crush_units.proofs.Ids.{same_id_tells}
use Rattle.crush_model.specs.Table.{Row, row_of, is_device_id, is_named, is_below, sum_below, summed_weight, total}
use Rattle.crush_model.specs.Lawful.{IsRow, Lawful}
use Rattle.crush_model.specs.Columns.{set_name}
use Rattle.crush_model.proofs.Forms.{named_form}
use Rattle.crush_model.proofs.Reorder.{one_if, sum_by-map}
use Rattle.crush_model.proofs.Found.{times, times-cons}
use Rattle.crush_model.proofs.Same.{uses}
use Rattle.crush_model.proofs.Kept.{sum_below-map}
use Rattle.crush_model.proofs.Changes.{with_name, with_name-id, with_name-parent}
use Rattle.crush_model.proofs.Columns.{Lawful-columns}
use Rattle.crush_model.proofs.Appended.{unnamed}
use Rattle.crush_model.proofs.Weighs.{sums_light}
use Rattle.crush_units.specs.declared.limits.TheConstants.{HEAVIEST_BUCKET, HEAVIEST_MAP}

-- how many rows have the name
abbrev pub named : List ℕ → List Row → ℕ
named n t = count_by (λ (r : Row). bytes_eq r.name n) t

named-cons : (n : List ℕ) (r : Row) (t : List Row) → named n (r ∷ t) ≡ one_if (bytes_eq r.name n) + named n t
named-cons n r t = sum_by-cons (λ (x : Row). one_if (bytes_eq x.name n)) r t

named-other : (i : ItemId) (m n : List ℕ) (t : List Row) → times i t ≡ 0 → named n (set_name i m t) ≡ named n t
named-other i m n [] h = refl
named-other i m n (r ∷ t) h = ⊎_elim
    (λ p. absurd (let one : one_if (same_id r.id i) ≡ 1 = ap one_if p.0 in omega (arith, one, h, times-cons i r t)))
    (λ p. let own : one_if (bytes_eq (with_name i m r).name n) ≡ one_if (bytes_eq r.name n) = ap (λ z. one_if (bytes_eq (if z then record r { name = m } else r).name n)) p.0 in
    omega (arith, own, named-cons n (with_name i m r) (set_name i m t), named-cons n r t, named-other i m n t (omega (arith, h, times-cons i r t))))
    (same_id_tells r.id i)

-- how often each name occurs after the item has the new name instead of the old one
pub named-set_name : (i : ItemId) (m n : List ℕ) (t : List Row) (r : Row) → times i t ≤ 1 → row_of t i ≡ Some r → named n (set_name i m t) + one_if (bytes_eq r.name n) ≡ named n t + one_if (bytes_eq m n)
named-set_name i m n [] r h e = absurd cc
named-set_name i m n (x ∷ t) r h e = ⊎_elim
    (λ p. let one : one_if (same_id x.id i) ≡ 1 = ap one_if p.0 in
    let found : Some x ≡ Some r = sym (ap (λ z. if z then Some x else row_of t i) p.0) ∙ e in
    let is : x ≡ r = cc in
    let old : one_if (bytes_eq x.name n) ≡ one_if (bytes_eq r.name n) = ap (λ (y : Row). one_if (bytes_eq y.name n)) is in
    let own : one_if (bytes_eq (with_name i m x).name n) ≡ one_if (bytes_eq m n) = ap (λ z. one_if (bytes_eq (if z then record x { name = m } else x).name n)) p.0 in
    omega (arith, own, old, named-cons n (with_name i m x) (set_name i m t), named-cons n x t, named-other i m n t (omega (arith, one, h, times-cons i x t))))
    (λ p. let own : one_if (bytes_eq (with_name i m x).name n) ≡ one_if (bytes_eq x.name n) = ap (λ z. one_if (bytes_eq (if z then record x { name = m } else x).name n)) p.0 in
    omega (arith, own, named-cons n (with_name i m x) (set_name i m t), named-cons n x t, named-set_name i m n t r (omega (arith, h, times-cons i x t)) (sym (ap (λ z. if z then Some x else row_of t i) p.0) ∙ e)))
    (same_id_tells x.id i)

pub name_uses : (i : ItemId) (m : List ℕ) (r : Row) → uses (with_name i m r) ≡ uses r
name_uses i m r = by_test (same_id r.id i) where
  by_test : (b : Bool) → uses (if b then record r { name = m } else r) ≡ uses r
  by_test true = refl
  by_test false = refl

name_weight : (i : ItemId) (m : List ℕ) (r : Row) → (with_name i m r).weight ≡ r.weight
name_weight i m r = by_test (same_id r.id i) where
  by_test : (b : Bool) → (if b then record r { name = m } else r).weight ≡ r.weight
  by_test true = refl
  by_test false = refl

pub named_row : (b : Bool) (m : List ℕ) (r : Row) → IsName m → IsRow r → IsRow (if b then record r { name = m } else r)
named_row true m r name row = record { name = name; form = named_form r.id m r row.form }
named_row false m r name row = row

name_summed : (i : ItemId) (m : List ℕ) (r : Row) → summed_weight (with_name i m r) ≡ summed_weight r
name_summed i m r = λ k. if is_device_id (with_name-id i m r k) then name_weight i m r k else 0

-- a change of names changes no sum
pub sum_below-set_name : (i : ItemId) (m : List ℕ) (t : List Row) (b : ℕ) → sum_below (set_name i m t) b ≡ sum_below t b
sum_below-set_name i m t b =
    let same : ◌≡◌ {A = Row → ℕ} (λ r. if is_below t b r.id then summed_weight (with_name i m r) else 0) (λ r. if is_below t b r.id then summed_weight r else 0) = λ k r. if is_below t b r.id then name_summed i m r k else 0 in
    sum_below-map (with_name i m) (with_name-id i m) (with_name-parent i m) t b ∙ ap (λ f. sum_by f t) same

pub total-set_name : (i : ItemId) (m : List ℕ) (t : List Row) → total (set_name i m t) ≡ total t
total-set_name i m t =
    let same : ◌≡◌ {A = Row → ℕ} (λ r. if is_some (with_name i m r).parent then summed_weight (with_name i m r) else 0) (λ r. if is_some r.parent then summed_weight r else 0) =
    λ k r. if is_some (with_name-parent i m r k) then name_summed i m r k else 0 in
    sum_by-map (λ (r : Row). if is_some r.parent then summed_weight r else 0) (with_name i m) t ∙ ap (λ f. sum_by f t) same

-- the law, if the new name is valid and the names are distinct after the change
pub Lawful-named : (i : ItemId) (m : List ℕ) (t : List Row) → Lawful t → IsName m → ((n : List ℕ) → named n (set_name i m t) ≤ 1) → Lawful (set_name i m t)
Lawful-named i m t l name names =
    Lawful-columns (with_name i m) (with_name-id i m) (with_name-parent i m) (name_uses i m) t l names (All-weaker IsRow (λ (r : Row). IsRow (with_name i m r)) (λ r. named_row (same_id r.id i) m r name) t l.rows)
    (sums_light (set_name i m t) (λ b. subst (λ n. n ≤ HEAVIEST_BUCKET) (sym (sum_below-set_name i m t b)) (l.sums b)) (subst (λ n. n ≤ HEAVIEST_MAP) (sym (total-set_name i m t)) l.total))

-- THE LAW: an item of the table may get a name that no row has
pub Lawful-set_name : (i : ItemId) (m : List ℕ) (t : List Row) (r : Row) → Lawful t → row_of t i ≡ Some r → IsName m → is_named t m ≡ false → Lawful (set_name i m t)
Lawful-set_name i m t r l e name fresh = Lawful-named i m t l name (λ n. by_test n (bytes_eq m n) refl) where
  by_test : (n : List ℕ) (b : Bool) → bytes_eq m n ≡ b → named n (set_name i m t) ≤ 1
  by_test n true same =
      let is : m ≡ n = (bytes_eq-Decides m n).0 same in
      let gone : named n t ≡ 0 = unnamed t n (ap (is_named t) (sym is) ∙ fresh) in
      let new : one_if (bytes_eq m n) ≡ 1 = ap one_if same in
      omega (arith, gone, new, named-set_name i m n t r (l.ids i) e)
  by_test n false other = let old : one_if (bytes_eq m n) ≡ 0 = ap one_if other in omega (arith, old, l.names n, named-set_name i m n t r (l.ids i) e)

-- what is true of each row is true of the row that is found
pub All-row : (P : Row → Type 0) (t : List Row) → All P t → (i : ItemId) (r : Row) → row_of t i ≡ Some r → P r
All-row P [] a i r e = absurd cc
All-row P (x ∷ t) a i r e = by_test (same_id x.id i) e (λ h. All-row P t (All-tail P x t a) i r h) where
  by_test : (b : Bool) → (if b then Some x else row_of t i) ≡ Some r → (row_of t i ≡ Some r → P r) → P r
  by_test true h rest = let is : x ≡ r = cc in subst P is (All-head P x t a)
  by_test false h rest = rest h
