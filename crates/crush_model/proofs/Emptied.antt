-- A bucket without items, when it is removed.
use Rattle.std.proofs.Common.{◌≡◌, ℕ, zero, suc, ◌≤◌, Bool, true, false, List, [], ◌∷◌, length, ap, sym, subst, ◌∙◌, refl, arith, ⊎_elim}
use Rattle.std.specs.Prelude.{◌||◌, not, if◌then◌else◌, Option, Some, None, map, filter, is_some, option_and_then}
use Rattle.std.specs.List.{sum_by}
use Rattle.std.proofs.lemmas.List.Sums.{sum_by-cons}
use Rattle.std.proofs.lemmas.List.Elements.{filter_agree}
use Rattle.crush_units.specs.declared.id.ItemId.{ItemId}
use Rattle.crush_units.specs.declared.id.ItemId.TheVariants.{Device, Bucket}
use Rattle.crush_units.specs.Id.{same_id}
use Rattle.crush_units.proofs.Ids.{same_id_tells}
use Rattle.crush_model.specs.Table.{Row, is_device_id, row_of, parent_of, then_up, climb, above, member, is_below, is_parent, kids, sum_below, summed_weight, total}
use Rattle.crush_model.specs.Lawful.{Lawful}
use Rattle.crush_model.specs.Columns.{is_part, table_without, as_root, part, without_row}
use Rattle.crush_model.specs.Count.{one_if}
use Rattle.crush_model.proofs.Climbs.{climb-above}
use Rattle.crush_model.proofs.Found.{times, times-cons}
use Rattle.crush_model.proofs.Removed.{parent_of-only, Lawful-without, length-filter_le}
use Rattle.crush_model.proofs.Sums.{added_weight}

-- no row has a bucket without items as its parent
no_kid : (t : List Row) (b : ℕ) → kids t b ≡ [] → (i : ItemId) → is_parent b (parent_of t i) ≡ false
no_kid [] b h i = refl
no_kid (r ∷ t) b h i = by_kid (is_parent b r.parent) refl (λ g. no_kid t b g i) h where
  by_id : (c : Bool) → is_parent b r.parent ≡ false → is_parent b (parent_of t i) ≡ false → is_parent b (option_and_then (λ (x : Row). x.parent) (if c then Some r else row_of t i)) ≡ false
  by_id true here rest = here
  by_id false here rest = rest

  by_kid : (k : Bool) → is_parent b r.parent ≡ k → (kids t b ≡ [] → is_parent b (parent_of t i) ≡ false) → map (λ (x : Row). x.id) (if k then r ∷ filter (λ (x : Row). is_parent b x.parent) t else filter (λ (x : Row). is_parent b x.parent) t) ≡ [] → is_parent b (parent_of (r ∷ t) i) ≡ false
  by_kid true e ih g = absurd (let long : suc (length (map (λ (x : Row). x.id) (filter (λ (x : Row). is_parent b x.parent) t))) ≡ 0 = ap length g in omega (arith, long))
  by_kid false e ih g = by_id (same_id r.id i) e (ih g)

-- nothing is below a bucket without items
never_climbed : (t : List Row) (b : ℕ) → ((i : ItemId) → is_parent b (parent_of t i) ≡ false) → (n : ℕ) (i : ItemId) → member b (climb t n i) ≡ false
never_climbed t b h zero i = refl
never_climbed t b h (suc n) i = up (parent_of t i) (h i) (λ p. never_climbed t b h n (Bucket p)) where
  up : (o : Option ℕ) → is_parent b o ≡ false → ((p : ℕ) → member b (climb t n (Bucket p)) ≡ false) → member b (then_up o (λ p. climb t n (Bucket p))) ≡ false
  up None g ih = refl
  up (Some p) g ih = (λ k. g k || member b (climb t n (Bucket p))) ∙ ih p

pub nothing_below : (t : List Row) (b : ℕ) → kids t b ≡ [] → (i : ItemId) → is_below t b i ≡ false
nothing_below t b h i = never_climbed t b (no_kid t b h) (length t) i

or_none : (a b : Bool) → b ≡ false → (a || b) ≡ a
or_none true b h = refl
or_none false b h = h

-- THE LAW: when a bucket without items is removed, only its own row is removed
pub table_without-empty : (t : List Row) (b : ℕ) → kids t b ≡ [] → table_without (Bucket b) t ≡ without_row (Bucket b) t
table_without-empty t b h = filter_agree (λ (r : Row). not (is_part t (Bucket b) r.id)) (λ (r : Row). not (same_id r.id (Bucket b))) (λ r. ap not (or_none (same_id r.id (Bucket b)) (is_below t b r.id) (nothing_below t b h r.id))) t

-- when a device is removed, only its own row is removed
pub table_without-device : (t : List Row) (d : ℕ) → table_without (Device d) t ≡ without_row (Device d) t
table_without-device t d = filter_agree (λ (r : Row). not (is_part t (Device d) r.id)) (λ (r : Row). not (same_id r.id (Device d))) (λ r. ap not (or_none (same_id r.id (Device d)) false refl)) t

-- the rows that have an id which occurs once are the row that is found by it
no_rows : (t : List Row) (i : ItemId) → times i t ≡ 0 → filter (λ (x : Row). same_id x.id i) t ≡ []
no_rows [] i h = refl
no_rows (x ∷ t) i h = ⊎_elim
    (λ p. absurd (let one : one_if (same_id x.id i) ≡ 1 = ap one_if p.0 in omega (arith, one, h, times-cons i x t)))
    (λ p. ap (λ z. if z then x ∷ filter (λ (y : Row). same_id y.id i) t else filter (λ (y : Row). same_id y.id i) t) p.0 ∙ no_rows t i (omega (arith, h, times-cons i x t)))
    (same_id_tells x.id i)

own_row : (t : List Row) (i : ItemId) (r : Row) → times i t ≤ 1 → row_of t i ≡ Some r → map (as_root i) (filter (λ (x : Row). same_id x.id i) t) ≡ record r { parent = None } ∷ []
own_row [] i r h e = absurd cc
own_row (x ∷ t) i r h e = ⊎_elim
    (λ p. let one : one_if (same_id x.id i) ≡ 1 = ap one_if p.0 in
    let found : Some x ≡ Some r = sym (ap (λ z. if z then Some x else row_of t i) p.0) ∙ e in
    let is : x ≡ r = cc in
    ap (λ z. map (as_root i) (if z then x ∷ filter (λ (y : Row). same_id y.id i) t else filter (λ (y : Row). same_id y.id i) t)) p.0
    ∙ ap (λ ys. as_root i x ∷ map (as_root i) ys) (no_rows t i (omega (arith, one, h, times-cons i x t)))
    ∙ ap (λ z. (if z then record x { parent = None } else x) ∷ []) p.0 ∙ ap (λ (y : Row). record y { parent = None } ∷ []) is)
    (λ p. ap (λ z. map (as_root i) (if z then x ∷ filter (λ (y : Row). same_id y.id i) t else filter (λ (y : Row). same_id y.id i) t)) p.0
    ∙ own_row t i r (omega (arith, h, times-cons i x t)) (sym (ap (λ z. if z then Some x else row_of t i) p.0) ∙ e))
    (same_id_tells x.id i)

-- THE LAW: the part of a bucket without items is its own row, and so is the part of a device
pub part-empty : (t : List Row) (b : ℕ) (r : Row) → Lawful t → kids t b ≡ [] → row_of t (Bucket b) ≡ Some r → part (Bucket b) t ≡ record r { parent = None } ∷ []
part-empty t b r l h e =
    ap (map (as_root (Bucket b))) (filter_agree (λ (x : Row). is_part t (Bucket b) x.id) (λ (x : Row). same_id x.id (Bucket b)) (λ x. or_none (same_id x.id (Bucket b)) (is_below t b x.id) (nothing_below t b h x.id)) t)
    ∙ own_row t (Bucket b) r (l.ids (Bucket b)) e

pub part-device : (t : List Row) (d : ℕ) (r : Row) → Lawful t → row_of t (Device d) ≡ Some r → part (Device d) t ≡ record r { parent = None } ∷ []
part-device t d r l e =
    ap (map (as_root (Device d))) (filter_agree (λ (x : Row). is_part t (Device d) x.id) (λ (x : Row). same_id x.id (Device d)) (λ x. or_none (same_id x.id (Device d)) false refl) t)
    ∙ own_row t (Device d) r (l.ids (Device d)) e

-- a bucket's row adds nothing to a sum, so the sum over the other rows is the same
adds_nothing : (r : Row) (b : ℕ) → r.id ≡ Bucket b → summed_weight r ≡ 0
adds_nothing r b e = ap (λ i. if is_device_id i then r.weight else 0) e

sum_others : (f : Row → ℕ) (b : ℕ) (t : List Row) → ((r : Row) → summed_weight r ≡ 0 → f r ≡ 0) → sum_by f (without_row (Bucket b) t) ≡ sum_by f t
sum_others f b [] h = refl
sum_others f b (r ∷ t) h = ⊎_elim
    (λ p. let nothing : f r ≡ 0 = h r (adds_nothing r b p.1) in
    ap (λ z. sum_by f (if not z then r ∷ without_row (Bucket b) t else without_row (Bucket b) t)) p.0 ∙ omega (arith, nothing, sum_by-cons f r t, sum_others f b t h))
    (λ p. ap (λ z. sum_by f (if not z then r ∷ without_row (Bucket b) t else without_row (Bucket b) t)) p.0 ∙ omega (arith, sum_by-cons f r (without_row (Bucket b) t), sum_by-cons f r t, sum_others f b t h))
    (same_id_tells r.id (Bucket b))

module _ (t : List Row) (l : Lawful t) (b : ℕ) (h : kids t b ≡ []) where
  abbrev left : List Row
  left = without_row (Bucket b) t

  left_lawful : Lawful left
  left_lawful = subst Lawful (table_without-empty t b h) (Lawful-without (Bucket b) t l)

  -- each item that is left has the same parent as before
  parent_left : (i : ItemId) → same_id i (Bucket b) ≡ false → parent_of left i ≡ parent_of t i
  parent_left i other = parent_of-only (λ j. not (same_id j (Bucket b))) t i ∙ ap (λ z. if not z then parent_of t i else None) other

  climb_left : (n : ℕ) (i : ItemId) → same_id i (Bucket b) ≡ false → climb left n i ≡ climb t n i
  climb_left zero i other = refl
  climb_left (suc n) i other = ap (λ o. then_up o (λ p. climb left n (Bucket p))) (parent_left i other) ∙ up (parent_of t i) (no_kid t b h i) (climb_left n) where
    up : (o : Option ℕ) → is_parent b o ≡ false → ((j : ItemId) → same_id j (Bucket b) ≡ false → climb left n j ≡ climb t n j) → then_up o (λ p. climb left n (Bucket p)) ≡ then_up o (λ p. climb t n (Bucket p))
    up None g ih = refl
    up (Some p) g ih = ap (λ z. p ∷ z) (ih (Bucket p) g)

  above_left : (i : ItemId) → same_id i (Bucket b) ≡ false → above left i ≡ above t i
  above_left i other = sym (climb-above left left_lawful (length t) i (length-filter_le (λ (r : Row). not (same_id r.id (Bucket b))) t)) ∙ climb_left (length t) i other

  weighed_left : (c : ℕ) (u : List Row) → sum_by (added_weight left c) (without_row (Bucket b) u) ≡ sum_by (added_weight t c) (without_row (Bucket b) u)
  weighed_left c [] = refl
  weighed_left c (r ∷ u) = ⊎_elim
      (λ p. ap (λ z. sum_by (added_weight left c) (if not z then r ∷ without_row (Bucket b) u else without_row (Bucket b) u)) p.0 ∙ weighed_left c u ∙ ap (λ z. sum_by (added_weight t c) (if not z then r ∷ without_row (Bucket b) u else without_row (Bucket b) u)) (sym p.0))
      (λ p. ap (λ z. sum_by (added_weight left c) (if not z then r ∷ without_row (Bucket b) u else without_row (Bucket b) u)) p.0
      ∙ (let same : added_weight left c r ≡ added_weight t c r = ap (λ xs. if member c xs then summed_weight r else 0) (above_left r.id p.0) in
      omega (arith, same, sum_by-cons (added_weight left c) r (without_row (Bucket b) u), sum_by-cons (added_weight t c) r (without_row (Bucket b) u), weighed_left c u))
      ∙ ap (λ z. sum_by (added_weight t c) (if not z then r ∷ without_row (Bucket b) u else without_row (Bucket b) u)) (sym p.0))
      (same_id_tells r.id (Bucket b))

  no_more : (x : Bool) (w : ℕ) → w ≡ 0 → (if x then w else 0) ≡ 0
  no_more true w e = e
  no_more false w e = refl

  -- THE LAW: all sums and the total are the same as before
  pub sum_below-emptied : (c : ℕ) → sum_below (table_without (Bucket b) t) c ≡ sum_below t c
  sum_below-emptied c =
      ap (λ z. sum_below z c) (table_without-empty t b h) ∙ weighed_left c t ∙ sum_others (added_weight t c) b t (λ r e. no_more (is_below t c r.id) (summed_weight r) e)

  pub total-emptied : total (table_without (Bucket b) t) ≡ total t
  total-emptied = ap total (table_without-empty t b h) ∙ sum_others (λ (r : Row). if is_some r.parent then summed_weight r else 0) b t (λ r e. no_more (is_some r.parent) (summed_weight r) e)
