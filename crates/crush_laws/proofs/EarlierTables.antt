-- Proves that if a table is lawful with one more row, or with one more item in its bucket, then it is lawful without that.
use Rattle.std.proofs.Common.{◌≡◌, ℕ, ◌+◌, ◌≤◌, Bool, true, false, List, [], ◌∷◌, ◌++◌, Option, Some, None, refl, sym, ap, subst, ◌∙◌, arith}
use Rattle.std.proofs.lemmas.List.Elements.{All-map, All-filter, All-weaker, filter-append, filter_passes}
use Rattle.std.proofs.lemmas.List.{append-nil}
use Rattle.std.specs.Prelude.{not, map, filter, is_some, option_and_then, All, IfSome, if◌then◌else◌}
use Rattle.crush_units.specs.declared.id.ItemId.{ItemId}
use Rattle.crush_units.specs.declared.id.ItemId.TheVariants.{Bucket}
use Rattle.crush_units.specs.Id.{same_id}
use Rattle.crush_units.proofs.Ids.{same_id_refl, same_id_equal, same_id_comm}
use Rattle.crush_model.specs.Count.{one_if}
use Rattle.crush_model.specs.Reordered.{IsReordered, through}
use Rattle.crush_model.specs.Table.{Row, row_of, is_there, is_placed, parent_of}
use Rattle.crush_model.specs.Columns.{without_row}
use Rattle.crush_model.specs.Lawful.{Lawful, HasParent}
use Rattle.crush_model.proofs.Reorder.{map_append, reordered-All, reordered-count, reordered_comm, reordered_split}
use Rattle.crush_model.proofs.Found.{times, times-cons, times-append, is_there-times, times-is_there, row_of-absent, Distinct}
use Rattle.crush_model.proofs.Kept.{times-map}
use Rattle.crush_model.proofs.Climbs.{parent_there}
use Rattle.crush_model.proofs.Appended.{row_of-append}
use Rattle.crush_model.proofs.Same.{Lawful-reordered}
use Rattle.crush_model.proofs.Parted.{map_same}
use Rattle.crush_model.proofs.Removed.{Lawful-only}
use Rattle.crush_model.proofs.Weighs.{All-both, All-found}
use Rattle.crush_print.proofs.PartTables.{bare, shown, Lawful-shown}
use Rattle.crush_edits.specs.Setting.{SettingData}
use Rattle.crush_edits.specs.Fits.{HasKind}
use Rattle.crush_map.specs.WrittenItems.{placed_row, put_below}
use Rattle.crush_laws.proofs.Allowed.{none_before}

-- A ROW MORE: the table without its last row is lawful
-- if the table has no row of an item, removing this item's row changes nothing
without_none : (t : List Row) (i : ItemId) → times i t ≡ 0 → without_row i t ≡ t
without_none [] i h = refl
without_none (r ∷ t) i h = by_id (same_id r.id i) (sym (times-cons i r t) ∙ h) (without_none t i)
  where
    by_id : (b : Bool) → one_if b + times i t ≡ 0 → (times i t ≡ 0 → without_row i t ≡ t) → (if not b then r ∷ without_row i t else without_row i t) ≡ r ∷ t
    by_id true n ih = absurd (omega (arith, n))
    by_id false n ih = ap (λ (u : List Row). r ∷ u) (ih (omega (arith, n)))

-- no other row has the item of the last row
pub none_like : (t : List Row) (r : Row) → Lawful (t ++ r ∷ []) → times r.id t ≡ 0
none_like t r l = none_before (λ (x : Row). same_id x.id r.id) t r (same_id_refl r.id) (l.ids r.id)

-- the table without the row of the last row's item is the table without its last row
without_last : (t : List Row) (r : Row) → Lawful (t ++ r ∷ []) → without_row r.id (t ++ r ∷ []) ≡ t
without_last t r l =
    filter-append (λ (x : Row). not (same_id x.id r.id)) t (r ∷ [])
    ∙ ap (λ (u : List Row). without_row r.id t ++ u) (ap (λ (b : Bool). if not b then r ∷ [] else []) (same_id_refl r.id))
    ∙ append-nil (without_row r.id t)
    ∙ without_none t r.id (none_like t r l)

-- if each row's parent comes earlier in the table, then the last row is no row's parent
stays_there : (t : List Row) (r : Row) (p : ℕ) → times r.id t ≡ 0 → is_there t (Bucket p) ≡ true → not (same_id (Bucket p) r.id) ≡ true
stays_there t r p none there = by_id (same_id (Bucket p) r.id) refl
  where
    by_id : (b : Bool) → same_id (Bucket p) r.id ≡ b → not b ≡ true
    by_id false e = refl
    by_id true e =
        let gone : is_there t (Bucket p) ≡ false = ap (is_there t) (same_id_equal (Bucket p) r.id e) ∙ ap is_some (row_of-absent t r.id none) in
        let no : true ≡ false = sym there ∙ gone in
        absurd cc

-- the parent of any other item stays in the table
parent_stays : (t : List Row) (r : Row) (i : ItemId) (p : ℕ) → All (HasParent t) t → not (same_id i r.id) ≡ true → parent_of (t ++ r ∷ []) i ≡ Some p → is_there t (Bucket p) ≡ true
parent_stays t r i p all other e = by_row (is_there t i) (same_id r.id i) refl (same_id_comm r.id i) (parent_there t t all i) (sym (ap (option_and_then (λ (x : Row). x.parent)) (row_of-append t (r ∷ []) i)) ∙ e)
  where
    by_parent : (o : Option ℕ) → IfSome o (λ (q : ℕ). is_there t (Bucket q) ≡ true) → o ≡ Some p → is_there t (Bucket p) ≡ true
    by_parent None h k = absurd (let no : (let x : Option ℕ = None in x) ≡ Some p = k in cc)
    by_parent (Some q) h k = let same : q ≡ p = cc in subst (λ (x : ℕ). is_there t (Bucket x) ≡ true) same h

    by_row : (b c : Bool) → is_there t i ≡ b → c ≡ same_id i r.id → IfSome (parent_of t i) (λ (q : ℕ). is_there t (Bucket q) ≡ true)
        → option_and_then (λ (x : Row). x.parent) (if b then row_of t i else (if c then Some r else None)) ≡ Some p → is_there t (Bucket p) ≡ true
    by_row true c there is h k = by_parent (parent_of t i) h k
    by_row false true there is h k = let no : false ≡ true = sym (ap not (sym is)) ∙ other in absurd cc
    by_row false false there is h k = absurd (let no : (let x : Option ℕ = None in x) ≡ Some p = k in cc)

-- the table before its last row is lawful
pub row_back : (t : List Row) (r : Row) → All (HasParent t) t → Lawful (t ++ r ∷ []) → Lawful t
row_back t r all l =
    let none = none_like t r l in
    subst Lawful (without_last t r l) (Lawful-only (λ (i : ItemId). not (same_id i r.id)) (t ++ r ∷ []) (λ i p other e. stays_there t r p none (parent_stays t r i p all other e)) l)

-- AN ITEM IN ITS BUCKET: the table before the item got its parent is lawful
-- an item without a parent has weight 0
abbrev pub IsLoose : Row → Type 0
IsLoose r = r.parent ≡ None → r.weight ≡ 0

-- if a row without a parent and a weight gets a parent and a weight, and both are removed again, the result is the same row
out_again : (b w : ℕ) (r : Row) → r.parent ≡ None → r.weight ≡ 0 → bare (placed_row b w r) ≡ r
out_again b w r root light = λ k. record r { parent = sym root k; weight = sym light k }

module _ (t : List Row) (i : ItemId) (b w : ℕ) where
  -- the row of the item, as a list
  abbrev own : List Row
  own = filter (λ (r : Row). same_id r.id i) t

  -- the item's row and the other rows are all rows, in another order
  apart : IsReordered (without_row i t ++ own) t
  apart = through (reordered_comm (without_row i t) own) (reordered_split (λ (r : Row). same_id r.id i) t)

  -- giving the item its parent adds and removes no row
  pub times_put : (j : ItemId) → times j (put_below b i w t) ≡ times j t
  times_put j =
      times-append j (without_row i t) (map (placed_row b w) own)
      ∙ ap (λ (n : ℕ). times j (without_row i t) + n) (times-map (placed_row b w) (λ r. refl) j own)
      ∙ sym (times-append j (without_row i t) own)
      ∙ reordered-count (λ (r : Row). same_id r.id j) apart

  -- an item that was in the table is in the table after the item has got its parent
  pub there_put : (j : ItemId) → is_there t j ≡ true → is_there (put_below b i w t) j ≡ true
  there_put j h = times-is_there (put_below b i w t) j (subst (λ (n : ℕ). 1 ≤ n) (sym (times_put j)) (is_there-times t j h))

  -- the test that is true for all items except for the item i
  abbrev Others : ItemId → Bool
  Others j = not (same_id j i)

  -- removing the item from its bucket doesn't change the other rows
  others_back : map (shown Others) (without_row i t) ≡ without_row i t
  others_back = map_same (shown Others) (without_row i t)
      (All-weaker (λ (r : Row). Others r.id ≡ true) (λ (r : Row). shown Others r ≡ r) (λ r h. ap (λ (c : Bool). if c then r else bare r) h) (without_row i t) (filter_passes (λ (r : Row). Others r.id) t))

  -- removing the item from its bucket gives the item's earlier row
  own_row : (r : Row) → same_id r.id i ≡ true → r.parent ≡ None → r.weight ≡ 0 → shown Others (placed_row b w r) ≡ r
  own_row r is root light = ap (λ (c : Bool). if not c then placed_row b w r else bare (placed_row b w r)) is ∙ out_again b w r root light

  -- the same for a list of rows
  map_both : (xs : List Row) → All (λ (r : Row). shown Others (placed_row b w r) ≡ r) xs → map (shown Others) (map (placed_row b w) xs) ≡ xs
  map_both xs h = fused xs ∙ map_same (λ (r : Row). shown Others (placed_row b w r)) xs h
    where
      fused : (ys : List Row) → map (shown Others) (map (placed_row b w) ys) ≡ map (λ (r : Row). shown Others (placed_row b w r)) ys
      fused [] = refl
      fused (y ∷ ys) = ap (λ (zs : List Row). shown Others (placed_row b w y) ∷ zs) (fused ys)

  module _ (loose : All IsLoose t) (free : is_placed t i ≡ false) (once : Distinct (put_below b i w t)) where
    -- an item without a parent has the parent none
    root : (o : Option ℕ) → is_some o ≡ false → o ≡ None
    root None h = refl
    root (Some p) h = absurd (let no : true ≡ false = h in cc)

    -- the item's row is the earlier row
    own_back : map (shown Others) (map (placed_row b w) own) ≡ own
    own_back =
        let found = All-found t (λ j. subst (λ (n : ℕ). n ≤ 1) (times_put j) (once j)) in
        let each = All-filter (λ (r : Row). same_id r.id i) (λ (r : Row). IsLoose r × (row_of t r.id ≡ Some r)) t (All-both IsLoose (λ (r : Row). row_of t r.id ≡ Some r) t loose found) in
        map_both own
        (All-weaker (λ (r : Row). (same_id r.id i ≡ true) × (IsLoose r × (row_of t r.id ≡ Some r))) (λ (r : Row). shown Others (placed_row b w r) ≡ r) (λ r h. is_own r h.0 h.1.0 h.1.1) own
        (All-both (λ (r : Row). same_id r.id i ≡ true) (λ (r : Row). IsLoose r × (row_of t r.id ≡ Some r)) own (filter_passes (λ (r : Row). same_id r.id i) t) each))
      where
        is_own : (r : Row) → same_id r.id i ≡ true → IsLoose r → row_of t r.id ≡ Some r → shown Others (placed_row b w r) ≡ r
        is_own r is light found =
            let none : r.parent ≡ None = ap (option_and_then (λ (x : Row). x.parent)) (sym found) ∙ ap (parent_of t) (same_id_equal r.id i is) ∙ root (parent_of t i) free in
            own_row r is none (light none)

    -- all rows are the earlier rows, except for their order
    all_back : map (shown Others) (put_below b i w t) ≡ without_row i t ++ own
    all_back = map_append (shown Others) (without_row i t) (map (placed_row b w) own) ∙ (λ k. others_back k ++ own_back k)

    -- what holds for each row after the item is removed from its bucket again holds for each earlier row
    pub rows_back : (P : Row → Type 0) → All P (map (shown Others) (put_below b i w t)) → All P t
    rows_back P h = reordered-All P apart (subst (All P) all_back h)

  -- the table before the item got its parent is lawful
  pub item_back : All IsLoose t → is_placed t i ≡ false → Lawful (put_below b i w t) → Lawful t
  item_back loose free l = Lawful-reordered (without_row i t ++ own) t apart (subst Lawful (all_back loose free l.ids) (Lawful-shown Others (put_below b i w t) l))

  -- the earlier table's rows have types that the setting has
  pub types_back : (s : SettingData) → All IsLoose t → is_placed t i ≡ false → Lawful (put_below b i w t) → All (HasKind s) (put_below b i w t) → All (HasKind s) t
  types_back s loose free l h =
      let once = l.ids in
      rows_back loose free once (HasKind s)
      (All-map (HasKind s) (shown Others) (put_below b i w t) (All-weaker (HasKind s) (λ (r : Row). HasKind s (shown Others r)) (λ r k. same_kind (Others r.id) r k) (put_below b i w t) h))
    where
      same_kind : (c : Bool) (r : Row) → HasKind s r → HasKind s (if c then r else bare r)
      same_kind true r k = k
      same_kind false r k = k
