-- What is true of a table u that has the rows of a part of a lawful table t (`part_of`): which names and ids are free in u, which items are found there, and how adding or placing an item changes u.
use Rattle.std.proofs.Common.{◌≡◌, ℕ, ◌+◌, ◌≤◌, Bool, true, false, List, [], ◌∷◌, ◌++◌, Option, Some, None, refl, sym, ap, ◌∙◌, arith}
use Rattle.std.proofs.lemmas.List.Sums.{sum_by-cons, sum_by-append}
use Rattle.std.specs.Prelude.{not, is_some, nat_lt, ◌==◌, bytes_eq, if◌then◌else◌}
use Rattle.std.specs.List.{count_by}
use Rattle.std.specs.Option.{option_map}
use Rattle.crush_units.specs.declared.id.ItemId.{ItemId}
use Rattle.crush_units.specs.declared.id.ItemId.TheVariants.{Bucket}
use Rattle.crush_units.specs.Id.{same_id, is_device_id}
use Rattle.crush_units.proofs.Ids.{same_id_equal}
use Rattle.crush_model.specs.Reordered.{IsReordered, through}
use Rattle.crush_model.specs.Count.{one_if}
use Rattle.crush_model.specs.Columns.{without_row}
use Rattle.crush_model.specs.Lawful.{Lawful}
use Rattle.crush_model.specs.Table.{Row, row_of, row_named, id_named, is_named, parent_of, member, used_ids, sum_below}
use Rattle.crush_model.proofs.Reorder.{reordered-refl, reordered-sym, reordered-count, reordered-filter}
use Rattle.crush_model.proofs.Found.{row_of-same}
use Rattle.crush_model.proofs.Same.{uses, times_used, times_used-same, member-count, sum_below-same, Lawful-reordered}
use Rattle.crush_model.proofs.Appended.{times_used-push}
use Rattle.crush_model.proofs.Tested.{bytes_itself}
use Rattle.crush_print.proofs.PartTables.{bare, shown, part_of, Lawful-part, row_of-part}
use Rattle.crush_print.proofs.PartSteps.{with_one, IsClosed, part_more, part_put}
use Rattle.crush_print.proofs.PartSums.{sum_below-part}

-- if lists differ only in order, they still do after the same element is added to both
reordered-more : {X : Type 0} {xs ys : List X} (x : X) → IsReordered xs ys → IsReordered (xs ++ x ∷ []) (ys ++ x ∷ [])
reordered-more x IsReordered.nothing = reordered-refl (x ∷ [])
reordered-more x (IsReordered.keep h) = IsReordered.keep (reordered-more x h)
reordered-more x IsReordered.exchange = IsReordered.exchange
reordered-more x (IsReordered.through h k) = IsReordered.through (reordered-more x h) (reordered-more x k)

-- if no row is counted under a name, then no row has the name
none_named : (u : List Row) (n : List ℕ) → count_by (λ (r : Row). bytes_eq r.name n) u ≡ 0 → is_named u n ≡ false
none_named [] n h = refl
none_named (r ∷ u) n h = by_test (bytes_eq r.name n) refl (none_named u n)
  where
    count : count_by (λ (x : Row). bytes_eq x.name n) (r ∷ u) ≡ one_if (bytes_eq r.name n) + count_by (λ (x : Row). bytes_eq x.name n) u
    count = sum_by-cons (λ (x : Row). one_if (bytes_eq x.name n)) r u

    by_test : (b : Bool) → bytes_eq r.name n ≡ b → (count_by (λ (x : Row). bytes_eq x.name n) u ≡ 0 → is_named u n ≡ false) → is_some (option_map (λ (x : Row). x.id) (if b then Some r else row_named u n)) ≡ false
    by_test true e rest = absurd (let one : one_if (bytes_eq r.name n) ≡ 1 = ap one_if e in omega (arith, count, one, h))
    by_test false e rest = let no_one : one_if (bytes_eq r.name n) ≡ 0 = ap one_if e in rest (omega (arith, count, no_one, h))

-- a row that is found is counted under its name
counted : (u : List Row) (i : ItemId) (x : Row) → row_of u i ≡ Some x → 1 ≤ count_by (λ (r : Row). bytes_eq r.name x.name) u
counted [] i x e = absurd (let none : ◌≡◌ {A = Option Row} None (Some x) = e in cc)
counted (r ∷ u) i x e = by_test (same_id r.id i) e (counted u i x)
  where
    count : count_by (λ (y : Row). bytes_eq y.name x.name) (r ∷ u) ≡ one_if (bytes_eq r.name x.name) + count_by (λ (y : Row). bytes_eq y.name x.name) u
    count = sum_by-cons (λ (y : Row). one_if (bytes_eq y.name x.name)) r u

    by_test : (b : Bool) → (if b then Some r else row_of u i) ≡ Some x → (row_of u i ≡ Some x → 1 ≤ count_by (λ (y : Row). bytes_eq y.name x.name) u) → 1 ≤ count_by (λ (y : Row). bytes_eq y.name x.name) (r ∷ u)
    by_test true h rest = let is : r ≡ x = cc in let one : one_if (bytes_eq r.name x.name) ≡ 1 = ap (λ (y : Row). one_if (bytes_eq y.name x.name)) is ∙ ap one_if (bytes_itself x.name) in omega (arith, count, one)
    by_test false h rest = omega (arith, count, rest h)

-- if names are distinct, then the item that is found by a row's name is the row's item
pub found_by_name : (u : List Row) (i : ItemId) (x : Row) → ((n : List ℕ) → count_by (λ (r : Row). bytes_eq r.name n) u ≤ 1) → row_of u i ≡ Some x → id_named u x.name ≡ Some i
found_by_name [] i x d e = absurd (let none : ◌≡◌ {A = Option Row} None (Some x) = e in cc)
found_by_name (r ∷ u) i x d e = by_id (same_id r.id i) refl e (λ h. found_by_name u i x (λ n. omega (arith, d n, sum_by-cons (λ (y : Row). one_if (bytes_eq y.name n)) r u)) h)
  where
    count : count_by (λ (y : Row). bytes_eq y.name x.name) (r ∷ u) ≡ one_if (bytes_eq r.name x.name) + count_by (λ (y : Row). bytes_eq y.name x.name) u
    count = sum_by-cons (λ (y : Row). one_if (bytes_eq y.name x.name)) r u

    by_name : (b : Bool) → bytes_eq r.name x.name ≡ b → row_of u i ≡ Some x → id_named u x.name ≡ Some i → option_map (λ (y : Row). y.id) (if b then Some r else row_named u x.name) ≡ Some i
    by_name true h found rest = absurd (let one : one_if (bytes_eq r.name x.name) ≡ 1 = ap one_if h in omega (arith, count, one, d x.name, counted u i x found))
    by_name false h found rest = rest

    by_id : (b : Bool) → same_id r.id i ≡ b → (if b then Some r else row_of u i) ≡ Some x → (row_of u i ≡ Some x → id_named u x.name ≡ Some i) → id_named (r ∷ u) x.name ≡ Some i
    by_id true h found rest =
        let is : r ≡ x = cc in
        (λ k. option_map (λ (y : Row). y.id) (if (ap (λ (y : Row). bytes_eq y.name x.name) is ∙ bytes_itself x.name) k then Some r else row_named u x.name)) ∙ ap (λ j. Some j) (same_id_equal r.id i h)
    by_id false h found rest = by_name (bytes_eq r.name x.name) refl found (rest found)

module _ (t : List Row) (l : Lawful t) (q P : ItemId → Bool) (closed : IsClosed t l q P) (u : List Row) (same : IsReordered (part_of q P t) u) where
  -- u is lawful
  pub rows_lawful : Lawful u
  rows_lawful = Lawful-reordered (part_of q P t) u same (Lawful-part P t l q closed)

  -- the row of an item of u is its row in t, with or without its place; no other item has a row in u
  pub rows_found : (i : ItemId) → row_of u i ≡ (if q i then option_map (shown P) (row_of t i) else None)
  rows_found i = let part = Lawful-part P t l q closed in sym (row_of-same (part_of q P t) u same part.ids i) ∙ row_of-part P t l q i

  -- an item that isn't in u yet has a free name and free ids
  pub name_free : (i : ItemId) (r : Row) → IsClosed t l (with_one q i) P → q i ≡ false → P i ≡ false → row_of t i ≡ Some r → is_named u r.name ≡ false
  name_free i r more new loose found =
      let all = Lawful-part P t l (with_one q i) more in
      let rows : IsReordered (u ++ bare r ∷ []) (part_of (with_one q i) P t) = through (reordered-more (bare r) (reordered-sym same)) (part_more t l q P i r more new loose found) in
      let count = reordered-count (λ (x : Row). bytes_eq x.name r.name) rows in
      let own : one_if (bytes_eq r.name r.name) ≡ 1 = ap one_if (bytes_itself r.name) in
      none_named u r.name (omega (arith, all.names r.name, count, own, sum_by-append (λ (x : Row). one_if (bytes_eq x.name r.name)) u (bare r ∷ []), sum_by-cons (λ (x : Row). one_if (bytes_eq x.name r.name)) (bare r) []))

  pub id_free : (i : ItemId) (r : Row) (k : ℕ) → IsClosed t l (with_one q i) P → q i ≡ false → P i ≡ false → row_of t i ≡ Some r → 1 ≤ count_by (λ x. x == k) (uses r) → member k (used_ids u) ≡ false
  id_free i r k more new loose found some =
      let all = Lawful-part P t l (with_one q i) more in
      let rows : IsReordered (u ++ bare r ∷ []) (part_of (with_one q i) P t) = through (reordered-more (bare r) (reordered-sym same)) (part_more t l q P i r more new loose found) in
      let none : times_used k u ≡ 0 = omega (arith, all.used k, times_used-same (u ++ bare r ∷ []) (part_of (with_one q i) P t) rows k, times_used-push k u (bare r), some) in
      member-count k (used_ids u) ∙ ap (nat_lt 0) none

  -- adding the row of an item, without a place, gives a larger part of t
  pub rows_more : (i : ItemId) (r : Row) → IsClosed t l (with_one q i) P → q i ≡ false → P i ≡ false → row_of t i ≡ Some r → IsReordered (part_of (with_one q i) P t) (u ++ bare r ∷ [])
  rows_more i r more new loose found = reordered-sym (through (reordered-more (bare r) (reordered-sym same)) (part_more t l q P i r more new loose found))

  -- placing an item that is in u gives a part of t in which this item is placed
  pub rows_put : (i : ItemId) (r : Row) → IsClosed t l q (with_one P i) → q i ≡ true → row_of t i ≡ Some r → IsReordered (part_of q (with_one P i) t) (without_row i u ++ r ∷ [])
  rows_put i r more there found =
      reordered-sym (through (reordered-more r (reordered-filter (λ (x : Row). not (same_id x.id i)) (reordered-sym same))) (part_put t l q P i r more there found))

  -- an item of u is found by its name
  pub name_found : (i : ItemId) (r : Row) → row_of u i ≡ Some r → id_named u r.name ≡ Some i
  name_found i r e = let lawful = rows_lawful in found_by_name u i r lawful.names e

  -- the sum of a bucket is already the sum that it has in t, if all items below it are placed
  pub sum_found : (D : ℕ → Bool) → ((c : ℕ) (i : ItemId) → D c ≡ true → parent_of t i ≡ Some c → P i ≡ true) → ((j : ℕ) → P (Bucket j) ≡ true → D j ≡ true) → ((i : ItemId) → is_device_id i ≡ true → q i ≡ true)
      → (c : ℕ) → D c ≡ true → sum_below u c ≡ sum_below t c
  sum_found D full done devices c d = let part = Lawful-part P t l q closed in sym (sum_below-same (part_of q P t) u same part.ids c) ∙ sum_below-part q P D t l closed full done devices c d
