-- The table after new buckets are added and an item is put into the lowest of them.
use Rattle.std.proofs.Common.{◌≡◌, ℕ, ◌≤◌, Bool, true, false, List, [], ◌∷◌, ◌++◌, length, ap, sym, subst, ◌∙◌, refl, arith, append_assoc, append-nil, ⊎_elim}
use Rattle.std.specs.Prelude.{not, if◌then◌else◌, Option, Some, None, IfSome, All, map, filter, is_some}
use Rattle.std.specs.List.{count_by}
use Rattle.std.proofs.lemmas.List.Sums.{length-filter}
use Rattle.std.proofs.lemmas.List.Elements.{All-weaker, filter-append}
use Rattle.crush_units.specs.declared.id.ItemId.{ItemId}
use Rattle.crush_units.specs.declared.id.ItemId.TheVariants.{Bucket}
use Rattle.crush_units.specs.Id.{same_id}
use Rattle.crush_units.proofs.Ids.{same_id_tells}
use Rattle.crush_model.specs.Items.{LeafData, Items, none, device}
use Rattle.crush_model.specs.ItemRows.{rows}
use Rattle.crush_model.specs.Table.{Row, row_of, is_there, is_parent, kids}
use Rattle.crush_model.specs.Same.{Same}
use Rattle.crush_model.specs.Law.{IsOne}
use Rattle.crush_model.specs.Lawful.{Lawful, has_too_many}
use Rattle.crush_model.specs.Columns.{is_part, without_row, table_without, part, as_root}
use Rattle.crush_model.proofs.Reorder.{reordered-sym, reordered-All, reordered-after, reordered-before}
use Rattle.crush_model.specs.Count.{one_if}
use Rattle.crush_model.proofs.Found.{times-cons, times-absent}
use Rattle.crush_model.proofs.Same.{Same-is, Same-trans}
use Rattle.crush_model.proofs.Appended.{row_of-append}
use Rattle.crush_model.proofs.Changes.{kids-append}
use Rattle.crush_model.proofs.Moved.{row_id}
use Rattle.crush_model.proofs.Relocated.{relocate, relocate_device, filter_all, filter_none, filter_same}
use Rattle.crush_model.proofs.Weighs.{All-found}
use Rattle.crush_edits.specs.Put.{NewData, next_up, chain, put_at}
use Rattle.crush_edits.specs.Boxes.{boxes, last_first}
use Rattle.crush_edits.specs.New.{AreNew}
use Rattle.crush_edits.proofs.Boxes.{rows-boxes}
use Rattle.crush_edits.proofs.Chains.{new_rows, new_are, new-reordered, Lawful-with, ids-apart, is_part-with, chain-apart, without_row-with, one-kid}

-- ROWS IN REVERSE ORDER give each bucket the same items, if each bucket has at most one
last_kid : (h : Bool) (x : Row) (xs : List Row) (ys : List ItemId) → (length xs ≤ 1 → ys ≡ map (λ (r : Row). r.id) xs) → length (if h then x ∷ xs else xs) ≤ 1
    → ys ++ map (λ (r : Row). r.id) (if h then x ∷ [] else []) ≡ map (λ (r : Row). r.id) (if h then x ∷ xs else xs)
last_kid true x [] ys e h = ap (λ z. z ++ x.id ∷ []) (e (omega arith))
last_kid true x (y ∷ xs) ys e h = absurd (omega arith)
last_kid false x xs ys e h = append-nil ys ∙ e h

kids-turned_rows : (xs : List Row) (b : ℕ) → length (filter (λ (r : Row). is_parent b r.parent) xs) ≤ 1 → kids (last_first xs) b ≡ kids xs b
kids-turned_rows [] b h = refl
kids-turned_rows (x ∷ xs) b h = kids-append (last_first xs) (x ∷ []) b ∙ last_kid (is_parent b x.parent) x (filter (λ (r : Row). is_parent b r.parent) xs) (kids (last_first xs) b) (λ k. kids-turned_rows xs b k) h

few_kids : (b : ℕ) (xs : List Row) → count_by (λ (r : Row). is_parent b r.parent) xs ≤ 1 → kids (last_first xs) b ≡ kids xs b
few_kids b xs h = kids-turned_rows xs b (omega (arith, h, length-filter (λ (r : Row). is_parent b r.parent) xs))

pub others_kept : (i : ItemId) (t : List Row) → is_there t i ≡ false → without_row i t ≡ t
others_kept i t gone = by_rows t (times-absent t i gone) where
  by_rows : (u : List Row) → count_by (λ (r : Row). same_id r.id i) u ≡ 0 → without_row i u ≡ u
  by_rows [] h = refl
  by_rows (r ∷ u) h = ⊎_elim
      (λ p. absurd (let one : one_if (same_id r.id i) ≡ 1 = ap one_if p.0 in omega (arith, one, h, times-cons i r u)))
      (λ p. ap (λ z. if not z then r ∷ without_row i u else without_row i u) p.0 ∙ ap (λ z. r ∷ z) (by_rows u (omega (arith, h, times-cons i r u))))
      (same_id_tells r.id i)

module _ (t : List Row) (l : Lawful t) (ns : List NewData) (top : Option ℕ) (fresh : AreNew t ns top) (m : ℕ) where
  abbrev with_new : List Row
  with_new = t ++ new_rows t l ns top fresh m

  abbrev new : List Row
  new = new_rows t l ns top fresh m

  -- the rows of the new buckets from the uppermost down are the same table as from the lowest up
  pub new-same : Same new (chain ns top)
  new-same = record {
    rows = new-reordered t l ns top fresh m;
    kids = λ b. ap (λ z. kids z b) (new_are t l ns top fresh m) ∙ few_kids b (chain ns top) (one-kid t l ns top fresh m b);
  }

  pub last-same : (w : List Row) (s : Row) → Same ((w ++ new) ++ s ∷ []) (w ++ (chain ns top ++ s ∷ []))
  last-same w s = Same-trans ((w ++ new) ++ s ∷ []) (w ++ (new ++ s ∷ [])) (w ++ (chain ns top ++ s ∷ [])) (Same-is (append_assoc w new (s ∷ []))) (record {
    rows = reordered-after w (reordered-before (s ∷ []) new-same.rows);
    kids = λ b. kids-append w (new ++ s ∷ []) b ∙ ap (λ z. kids w b ++ z) (kids-append new (s ∷ []) b ∙ ap (λ z. z ++ kids (s ∷ []) b) (new-same.kids b) ∙ sym (kids-append (chain ns top) (s ∷ []) b)) ∙ sym (kids-append w (chain ns top ++ s ∷ []) b);
  })

  -- the table with the new buckets, from which the item's row is removed and to which it is appended, is the table of the put
  pub placed-same : (i : ItemId) (s : Row) → All (λ (n : NewData). same_id (Bucket n.id) i ≡ false) ns → Same (without_row i with_new ++ s ∷ []) (without_row i t ++ (chain ns top ++ s ∷ []))
  placed-same i s other = Same-trans (without_row i with_new ++ s ∷ []) ((without_row i t ++ new) ++ s ∷ []) (without_row i t ++ (chain ns top ++ s ∷ []))
      (Same-is (ap (λ z. z ++ s ∷ []) (without_row-with t l ns top fresh m i other))) (last-same (without_row i t) s)

  module _ (room : has_too_many with_new ≡ false) where
    lawful : Lawful with_new
    lawful = Lawful-with t l ns top fresh m room

    module _ (i : ItemId) (r : Row) (found : row_of t i ≡ Some r) (apart : IfSome top (λ b. is_part t i (Bucket b) ≡ false)) where
      there : is_there t i ≡ true
      there = ap is_some found

      pub other : All (λ (n : NewData). same_id (Bucket n.id) i ≡ false) ns
      other = ids-apart t l ns top fresh m i there

      pub still_found : row_of with_new i ≡ Some r
      still_found = found_first (is_there t i) there found where
        found_first : (b : Bool) → b ≡ true → row_of t i ≡ Some r → row_of with_new i ≡ Some r
        found_first b e f = row_of-append t new i ∙ ap (λ z. if z then row_of t i else row_of new i) there ∙ f

      pub next_apart : IfSome (next_up ns top) (λ b. is_part with_new i (Bucket b) ≡ false)
      next_apart = (chain-apart t l ns top fresh m room i other apart).1

      is_it : r.id ≡ i
      is_it = row_id i t r found

      to_put : (s : Row) → s.id ≡ r.id → Same (without_row i t ++ (chain ns top ++ s ∷ [])) (without_row s.id t ++ (chain ns top ++ s ∷ []))
      to_put s e = Same-is (ap (λ j. without_row j t ++ (chain ns top ++ s ∷ [])) (sym (e ∙ is_it)))

      -- THE LAW: adding the new buckets, detaching the item with everything below it, and attaching it in the lowest gives the table of the put
      pub put-moved : (n : Items) → IsOne n → Same (rows None n) (part i with_new) → Same (table_without i with_new ++ rows (next_up ns top) n) (put_at t r ns top)
      put-moved n one whole =
          Same-trans (table_without i with_new ++ rows (next_up ns top) n) (without_row i with_new ++ record r { parent = next_up ns top } ∷ []) (put_at t r ns top)
          (relocate with_new i (next_up ns top) n r lawful still_found one whole next_apart)
          (Same-trans (without_row i with_new ++ record r { parent = next_up ns top } ∷ []) (without_row i t ++ (chain ns top ++ record r { parent = next_up ns top } ∷ [])) (put_at t r ns top)
          (placed-same i (record r { parent = next_up ns top }) other) (to_put (record r { parent = next_up ns top }) refl))

      -- the same for a device, which gets another weight
      pub put-moved_device : (d : LeafData) (w : ℕ) → Same (rows None (device d none)) (part i with_new)
          → Same (table_without i with_new ++ rows (next_up ns top) (device (record d { weight = w }) none)) (put_at t (record r { weight = w }) ns top)
      put-moved_device d w whole =
          Same-trans (table_without i with_new ++ rows (next_up ns top) (device (record d { weight = w }) none)) (without_row i with_new ++ record r { parent = next_up ns top; weight = w } ∷ []) (put_at t (record r { weight = w }) ns top)
          (relocate_device with_new i (next_up ns top) d w r lawful still_found whole next_apart)
          (Same-trans (without_row i with_new ++ record r { parent = next_up ns top; weight = w } ∷ []) (without_row i t ++ (chain ns top ++ record r { parent = next_up ns top; weight = w } ∷ [])) (put_at t (record r { weight = w }) ns top)
          (placed-same i (record r { parent = next_up ns top; weight = w }) other) (to_put (record r { parent = next_up ns top; weight = w }) refl))

      -- whether a row of the table is part of the item is the same with the new buckets as without
      part_of_old : All (λ (x : Row). is_part with_new i x.id ≡ is_part t i x.id) t
      part_of_old = All-weaker (λ (x : Row). row_of t x.id ≡ Some x) (λ (x : Row). is_part with_new i x.id ≡ is_part t i x.id) (λ x e. is_part-with t l ns top fresh m i x.id (ap is_some e)) t (All-found t l.ids)

      part_of_new : All (λ (x : Row). is_part with_new i x.id ≡ false) new
      part_of_new = reordered-All (λ (x : Row). is_part with_new i x.id ≡ false) (reordered-sym new-same.rows) (chain-apart t l ns top fresh m room i other apart).0

      -- so the new buckets may be added before the item is detached, or after that
      pub without-with : table_without i with_new ≡ table_without i t ++ new
      without-with =
          filter-append (λ (x : Row). not (is_part with_new i x.id)) t new
          ∙ (λ k. filter_same (λ (x : Row). not (is_part with_new i x.id)) (λ (x : Row). not (is_part t i x.id)) t (λ j d h. ap not (part_of_old j d h)) k
          ++ filter_all (λ (x : Row). not (is_part with_new i x.id)) new (λ j d h. ap not (part_of_new j d h)) k)

      pub part-with : part i with_new ≡ part i t
      part-with = ap (map (as_root i))
          (filter-append (λ (x : Row). is_part with_new i x.id) t new
          ∙ (λ k. filter_same (λ (x : Row). is_part with_new i x.id) (λ (x : Row). is_part t i x.id) t part_of_old k ++ filter_none (λ (x : Row). is_part with_new i x.id) new part_of_new k)
          ∙ append-nil (filter (λ (x : Row). is_part t i x.id) t))

      -- the law in the other order: detaching the item, adding the new buckets, attaching the item in the lowest
      pub put-taken : (n : Items) → IsOne n → Same (rows None n) (part i t) → Same ((table_without i t ++ new) ++ rows (next_up ns top) n) (put_at t r ns top)
      put-taken n one whole =
          subst (λ z. Same (z ++ rows (next_up ns top) n) (put_at t r ns top)) without-with (put-moved n one (subst (Same (rows None n)) (sym part-with) whole))

      -- the law in two steps: detaching the item, adding the new buckets with the item in them
      boxed : (n : Items) (u : List Row) → Same (table_without i with_new ++ rows (next_up ns top) n) u → Same (table_without i t ++ rows top (boxes m n ns)) u
      boxed n u same =
          subst (λ z. Same (table_without i t ++ z) u) (ap (λ z. z ++ rows (next_up ns top) n) (new_are t l ns top fresh m) ∙ sym (rows-boxes m n ns top))
          (Same-trans (table_without i t ++ (new ++ rows (next_up ns top) n)) ((table_without i t ++ new) ++ rows (next_up ns top) n) u (Same-is (sym (append_assoc (table_without i t) new (rows (next_up ns top) n))))
          (subst (λ z. Same (z ++ rows (next_up ns top) n) u) without-with same))

      pub put-boxed : (n : Items) → IsOne n → Same (rows None n) (part i t) → Same (table_without i t ++ rows top (boxes m n ns)) (put_at t r ns top)
      put-boxed n one whole = boxed n (put_at t r ns top) (put-moved n one (subst (Same (rows None n)) (sym part-with) whole))

      pub put-boxed_device : (d : LeafData) (w : ℕ) → Same (rows None (device d none)) (part i t) → Same (table_without i t ++ rows top (boxes m (device (record d { weight = w }) none) ns)) (put_at t (record r { weight = w }) ns top)
      put-boxed_device d w whole = boxed (device (record d { weight = w }) none) (put_at t (record r { weight = w }) ns top) (put-moved_device d w (subst (Same (rows None (device d none))) (sym part-with) whole))
