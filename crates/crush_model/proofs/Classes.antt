-- The class is a column of its own: what a change of a class doesn't change, and what the devices of a class weigh.
use Rattle.std.proofs.Common.{◌≡◌, ℕ, ◌+◌, ◌≤◌, Bool, true, false, List, [], ◌∷◌, ap, sym, subst, ◌∙◌, refl, arith, ⊎_elim}
use Rattle.std.specs.Prelude.{if◌then◌else◌, Option, Some, None, IfSome, All, filter, is_some, option_and_then, bytes_eq}
use Rattle.std.specs.List.{sum_by, count_by}
use Rattle.std.proofs.lemmas.List.Elements.{All-weaker}
use Rattle.std.proofs.lemmas.List.Sums.{sum_by-cons}
use Rattle.crush_units.specs.declared.id.ItemId.{ItemId}
use Rattle.crush_units.specs.declared.id.ItemId.TheVariants.{Device, Bucket}
use Rattle.crush_units.specs.Id.{same_id}
use Rattle.crush_units.specs.Name.{IsName}
use Rattle.crush_units.specs.declared.limits.TheConstants.{HEAVIEST_BUCKET, HEAVIEST_MAP}
use Rattle.crush_units.proofs.Ids.{same_id_tells}
use Rattle.crush_model.specs.Classes.{classed_weight, class_sum}
use Rattle.crush_model.specs.Columns.{set_class, is_part, as_root, part}
use Rattle.crush_model.specs.Lawful.{IsRow, IsRowOf, Lawful}
use Rattle.crush_model.specs.Reordered.{IsReordered}
use Rattle.crush_model.specs.Same.{Same}
use Rattle.crush_model.specs.Table.{Row, row_of, is_there, class_of, is_device_id, is_below, sum_below, summed_weight, total}
use Rattle.crush_model.proofs.Changes.{is_part-same}
use Rattle.crush_model.proofs.Columns.{count-map, Lawful-columns}
use Rattle.crush_model.proofs.Found.{Distinct, times, times-cons}
use Rattle.crush_model.proofs.Kept.{sum_below-map, Same-map}
use Rattle.crush_model.proofs.Reorder.{one_if, reordered-sum, sum_by-map}
use Rattle.crush_model.proofs.Same.{uses}
use Rattle.crush_model.proofs.Weighs.{sums_light}

abbrev pub with_class : ItemId → Option (List ℕ) → Row → Row
with_class i c r = if same_id r.id i then record r { class = c } else r

-- a change of a class doesn't change the other columns
module _ {X : Type 0} (column : Row → X) (kept : (c : Option (List ℕ)) (r : Row) → column (record r { class = c }) ≡ column r) where
  by_test : (b : Bool) (c : Option (List ℕ)) (r : Row) → column (if b then record r { class = c } else r) ≡ column r
  by_test true c r = kept c r
  by_test false c r = refl

  pub class-keeps : (i : ItemId) (c : Option (List ℕ)) (r : Row) → column (with_class i c r) ≡ column r
  class-keeps i c r = by_test (same_id r.id i) c r

pub with_class-id : (i : ItemId) (c : Option (List ℕ)) (r : Row) → (with_class i c r).id ≡ r.id
with_class-id = class-keeps (λ (r : Row). r.id) (λ c r. refl)

pub with_class-parent : (i : ItemId) (c : Option (List ℕ)) (r : Row) → (with_class i c r).parent ≡ r.parent
with_class-parent = class-keeps (λ (r : Row). r.parent) (λ c r. refl)

pub with_class-name : (i : ItemId) (c : Option (List ℕ)) (r : Row) → (with_class i c r).name ≡ r.name
with_class-name = class-keeps (λ (r : Row). r.name) (λ c r. refl)

pub with_class-summed : (i : ItemId) (c : Option (List ℕ)) (r : Row) → summed_weight (with_class i c r) ≡ summed_weight r
with_class-summed = class-keeps summed_weight (λ c r. refl)

pub with_class-uses : (i : ItemId) (c : Option (List ℕ)) (r : Row) → uses (with_class i c r) ≡ uses r
with_class-uses = class-keeps uses (λ c r. refl)

pub Same-set_class : (i : ItemId) (c : Option (List ℕ)) (t u : List Row) → Same t u → Same (set_class i c t) (set_class i c u)
Same-set_class i c = Same-map (with_class i c) (with_class-id i c) (with_class-parent i c)

-- a change of a class changes no sum
pub sum_below-set_class : (i : ItemId) (c : Option (List ℕ)) (t : List Row) (b : ℕ) → sum_below (set_class i c t) b ≡ sum_below t b
sum_below-set_class i c t b =
    let same : ◌≡◌ {A = Row → ℕ} (λ r. if is_below t b r.id then summed_weight (with_class i c r) else 0) (λ r. if is_below t b r.id then summed_weight r else 0) = λ k r. if is_below t b r.id then with_class-summed i c r k else 0 in
    sum_below-map (with_class i c) (with_class-id i c) (with_class-parent i c) t b ∙ ap (λ f. sum_by f t) same

pub total-set_class : (i : ItemId) (c : Option (List ℕ)) (t : List Row) → total (set_class i c t) ≡ total t
total-set_class i c t =
    let same : ◌≡◌ {A = Row → ℕ} (λ r. if is_some (with_class i c r).parent then summed_weight (with_class i c r) else 0) (λ r. if is_some r.parent then summed_weight r else 0) =
    λ k r. if is_some (with_class-parent i c r k) then with_class-summed i c r k else 0 in
    sum_by-map (λ (r : Row). if is_some r.parent then summed_weight r else 0) (with_class i c) t ∙ ap (λ f. sum_by f t) same

-- a device's row stays well-formed with another class
classed_row : (d : ℕ) (c : Option (List ℕ)) → IfSome c IsName → (r : Row) → IsRow r → IsRow (with_class (Device d) c r)
classed_row d c name r row = by_test (same_id r.id (Device d)) refl where
  by_id : (i : ItemId) → same_id i (Device d) ≡ true → IsRowOf i r → IsRowOf i (record r { class = c })
  by_id (Device x) e form = record { id = form.id; kind = form.kind; light = form.light; unplaced = form.unplaced; alg = form.alg; class_ids = form.class_ids; class = name }
  by_id (Bucket b) e form = absurd cc

  by_test : (b : Bool) → same_id r.id (Device d) ≡ b → IsRow (if b then record r { class = c } else r)
  by_test true e = record { name = row.name; form = by_id r.id e row.form }
  by_test false e = row

-- THE LAW: a device may get any class, or none
pub Lawful-set_class : (d : ℕ) (c : Option (List ℕ)) (t : List Row) → Lawful t → IfSome c IsName → Lawful (set_class (Device d) c t)
Lawful-set_class d c t l name =
    let i = Device d in
    Lawful-columns (with_class i c) (with_class-id i c) (with_class-parent i c) (with_class-uses i c) t l
    (λ n. subst (λ k. k ≤ 1) (sym (count-map (with_class i c) (λ (r : Row). bytes_eq r.name n) (λ r. ap (λ m. bytes_eq m n) (with_class-name i c r)) t)) (l.names n))
    (All-weaker IsRow (λ (r : Row). IsRow (with_class i c r)) (classed_row d c name) t l.rows)
    (sums_light (set_class i c t) (λ b. subst (λ n. n ≤ HEAVIEST_BUCKET) (sym (sum_below-set_class i c t b)) (l.sums b)) (subst (λ n. n ≤ HEAVIEST_MAP) (sym (total-set_class i c t)) l.total))

-- setting the class that a device already has doesn't change the table
untouched : (i : ItemId) (c : Option (List ℕ)) (t : List Row) → times i t ≡ 0 → set_class i c t ≡ t
untouched i c [] h = refl
untouched i c (r ∷ t) h = ⊎_elim
    (λ p. absurd (let one : one_if (same_id r.id i) ≡ 1 = ap one_if p.0 in omega (arith, one, h, times-cons i r t)))
    (λ p. λ k. (if p.0 k then record r { class = c } else r) ∷ untouched i c t (omega (arith, h, times-cons i r t)) k)
    (same_id_tells r.id i)

kept_from : (i : ItemId) (c : Option (List ℕ)) (t : List Row) → times i t ≤ 1 → is_there t i ≡ true → class_of t i ≡ c → set_class i c t ≡ t
kept_from i c [] h there e = refl
kept_from i c (r ∷ t) h there e = ⊎_elim
    (λ p. let one : one_if (same_id r.id i) ≡ 1 = ap one_if p.0 in
    let own : r.class ≡ c = (λ k. option_and_then (λ (x : Row). x.class) (if sym p.0 k then Some r else row_of t i)) ∙ e in
    (λ k. (if p.0 k then record r { class = c } else r) ∷ untouched i c t (omega (arith, one, h, times-cons i r t)) k) ∙ (λ k. record r { class = sym own k } ∷ t))
    (λ p. let here : is_there t i ≡ true = (λ k. is_some (if sym p.0 k then Some r else row_of t i)) ∙ there in
    let own : class_of t i ≡ c = (λ k. option_and_then (λ (x : Row). x.class) (if sym p.0 k then Some r else row_of t i)) ∙ e in
    (λ k. (if p.0 k then record r { class = c } else r) ∷ kept_from i c t (omega (arith, h, times-cons i r t)) here own k))
    (same_id_tells r.id i)

pub class_kept : (i : ItemId) (c : Option (List ℕ)) (t : List Row) → Lawful t → is_there t i ≡ true → class_of t i ≡ c → set_class i c t ≡ t
class_kept i c t l there e = kept_from i c t (l.ids i) there e

-- THE WEIGHT OF A CLASS is equal in tables that are the same
pub class_sum-same : (t u : List Row) → IsReordered t u → Distinct t → (i : ItemId) (c : List ℕ) → class_sum t i c ≡ class_sum u i c
class_sum-same t u p d i c =
    let same : ◌≡◌ {A = Row → ℕ} (λ r. if is_part t i r.id then classed_weight c r else 0) (λ r. if is_part u i r.id then classed_weight c r else 0) = λ k r. if is_part-same t u p d i r.id k then classed_weight c r else 0 in
    reordered-sum (λ (r : Row). if is_part t i r.id then classed_weight c r else 0) p ∙ ap (λ f. sum_by f u) same

sum-filter : (g : Row → ℕ) (p : Row → Bool) (t : List Row) → sum_by g (filter p t) ≡ sum_by (λ r. if p r then g r else 0) t
sum-filter g p [] = refl
sum-filter g p (r ∷ t) = by_test (p r) (sum_by-cons (λ x. if p x then g x else 0) r t) (sum-filter g p t) where
  by_test : (b : Bool) → sum_by (λ x. if p x then g x else 0) (r ∷ t) ≡ (if b then g r else 0) + sum_by (λ x. if p x then g x else 0) t → sum_by g (filter p t) ≡ sum_by (λ x. if p x then g x else 0) t
      → sum_by g (if b then r ∷ filter p t else filter p t) ≡ sum_by (λ x. if p x then g x else 0) (r ∷ t)
  by_test true e ih = omega (arith, e, ih, sum_by-cons g r (filter p t))
  by_test false e ih = omega (arith, e, ih)

-- the weight of a class in an item is the weight of the class in the item's part of the table
root_classed : (b : Bool) (c : List ℕ) (r : Row) → classed_weight c (if b then record r { parent = None } else r) ≡ classed_weight c r
root_classed true c r = refl
root_classed false c r = refl

pub class_sum-part : (t : List Row) (i : ItemId) (c : List ℕ) → sum_by (classed_weight c) (part i t) ≡ class_sum t i c
class_sum-part t i c =
    let same : ◌≡◌ {A = Row → ℕ} (λ r. classed_weight c (as_root i r)) (classed_weight c) = λ k r. root_classed (same_id r.id i) c r k in
    sum_by-map (classed_weight c) (as_root i) (filter (λ (r : Row). is_part t i r.id) t) ∙ ap (λ f. sum_by f (filter (λ (r : Row). is_part t i r.id) t)) same ∙ sum-filter (classed_weight c) (λ (r : Row). is_part t i r.id) t
