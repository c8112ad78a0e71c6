-- How many buckets other buckets hold: no step makes this number smaller, and it grows by one when a bucket is put into a bucket.
use Rattle.std.proofs.Common.{◌≡◌, ℕ, ◌+◌, ◌≤◌, Bool, true, false, List, [], ◌∷◌, ◌++◌, refl, ap, sym, ◌∙◌, arith, ⊎_elim}
use Rattle.std.proofs.lemmas.List.Elements.{All-head, All-tail, All-weaker}
use Rattle.std.proofs.lemmas.List.Sums.{sum_by_push, sum_by-cons}
use Rattle.std.specs.Prelude.{Option, Some, None, ◌&&◌, ◌==◌, not, if◌then◌else◌, All, is_some, option_and_then}
use Rattle.crush_units.specs.declared.limits.TheConstants.{MOST_BUCKETS}
use Rattle.crush_units.specs.declared.id.ItemId.{ItemId}
use Rattle.crush_units.specs.declared.id.ItemId.TheVariants.{Device, Bucket}
use Rattle.crush_units.specs.Id.{same_id}
use Rattle.crush_units.proofs.Ids.{same_id_tells}
use Rattle.crush_model.specs.Count.{one_if}
use Rattle.crush_model.specs.Same.{Same}
use Rattle.crush_model.specs.Lawful.{Lawful}
use Rattle.crush_model.specs.Table.{Row, is_bucket, row_of, parent_of, bucket_count, sum_below}
use Rattle.crush_model.specs.Columns.{without_row}
use Rattle.crush_model.proofs.Reorder.{reordered-count}
use Rattle.crush_model.proofs.Weighs.{All-found}
use Rattle.crush_model.proofs.Moved.{row_id}
use Rattle.crush_map.specs.WrittenItems.{placed_row, adjustment}
use Rattle.crush_builder.specs.Building.{held_buckets}

abbrev is_held : Row → Bool
is_held r = is_bucket r && is_some r.parent

pub held-same : (t u : List Row) → Same t u → held_buckets t ≡ held_buckets u
held-same t u e = reordered-count is_held e.rows

pub held-push : (n : ℕ) (t : List Row) (r : Row) → n ≤ held_buckets t → n ≤ held_buckets (t ++ r ∷ [])
held-push n t r h = omega (arith, h, sum_by_push (λ (x : Row). one_if (is_held x)) t r)

one_held : (a b : Bool) → one_if (a && b) ≤ one_if a
one_held true true = omega arith
one_held true false = omega arith
one_held false b = omega arith

held_few : (t : List Row) → held_buckets t ≤ bucket_count t
held_few [] = omega arith
held_few (r ∷ t) = omega (arith, one_held (is_bucket r) (is_some r.parent), held_few t, sum_by-cons (λ (x : Row). one_if (is_held x)) r t, sum_by-cons (λ (x : Row). one_if (is_bucket x)) r t)

pub held_at_most : (t : List Row) → Lawful t → held_buckets t ≤ MOST_BUCKETS
held_at_most t l = omega (arith, held_few t, l.buckets)

-- removing an item that no bucket holds doesn't reduce the number of held buckets
left_held : (t : List Row) (i : ItemId) → All (λ (r : Row). same_id r.id i ≡ true → is_held r ≡ false) t → held_buckets t ≤ held_buckets (without_row i t)
left_held [] i a = omega arith
left_held (r ∷ t) i a = by_id (same_id r.id i) (All-head (λ (x : Row). same_id x.id i ≡ true → is_held x ≡ false) r t a) (left_held t i (All-tail (λ (x : Row). same_id x.id i ≡ true → is_held x ≡ false) r t a)) where
  by_id : (b : Bool) → (b ≡ true → is_held r ≡ false) → held_buckets t ≤ held_buckets (without_row i t) → held_buckets (r ∷ t) ≤ held_buckets (if not b then r ∷ without_row i t else without_row i t)
  by_id true h ih = let no : one_if (is_held r) ≡ 0 = ap one_if (h refl) in omega (arith, no, ih, sum_by-cons (λ (x : Row). one_if (is_held x)) r t)
  by_id false h ih = omega (arith, ih, sum_by-cons (λ (x : Row). one_if (is_held x)) r t, sum_by-cons (λ (x : Row). one_if (is_held x)) r (without_row i t))

and_false : (b : Bool) → (b && false) ≡ false
and_false true = refl
and_false false = refl

free_rows : (t : List Row) (i : ItemId) → Lawful t → parent_of t i ≡ None → All (λ (r : Row). same_id r.id i ≡ true → is_held r ≡ false) t
free_rows t i l root = All-weaker (λ (r : Row). row_of t r.id ≡ Some r) (λ (r : Row). same_id r.id i ≡ true → is_held r ≡ false) each t (All-found t l.ids) where
  each : (r : Row) → row_of t r.id ≡ Some r → same_id r.id i ≡ true → is_held r ≡ false
  each r e same = ⊎_elim
      (λ p. let none : r.parent ≡ None = ap (option_and_then (λ (x : Row). x.parent)) (sym (sym (ap (row_of t) p.1) ∙ e)) ∙ root in
      ap (λ o. is_bucket r && is_some o) none ∙ and_false (is_bucket r))
      (λ p. absurd (let no : true ≡ false = sym same ∙ p.0 in cc))
      (same_id_tells r.id i)

-- the number grows by one for a bucket that is put into a bucket, and such a step adjusts at most one weight
pub one_at_most : (b : Bool) → one_if b ≤ 1
one_at_most true = omega arith
one_at_most false = omega arith

adjusts : (t : List Row) (i : ItemId) (k v : ℕ) (w : Option ℕ) (r : Row) → r.id ≡ i → adjustment t i w ≤ one_if (is_held (placed_row k v r))
adjusts t (Device x) k v w r e = omega arith
adjusts t (Bucket b) k v None r e = omega arith
adjusts t (Bucket b) k v (Some w) r e =
    let one : one_if (is_held (placed_row k v r)) ≡ 1 = ap (λ j. one_if (is_bucket (record r { id = j }) && true)) e in
    omega (arith, one, one_at_most (not (w == sum_below t b)))

pub held-put : (t : List Row) (i : ItemId) (k v n : ℕ) (w : Option ℕ) (r : Row) → Lawful t → parent_of t i ≡ None → row_of t i ≡ Some r → n ≤ held_buckets t → n + adjustment t i w ≤ held_buckets (without_row i t ++ placed_row k v r ∷ [])
held-put t i k v n w r l root e h =
    omega (arith, h, left_held t i (free_rows t i l root), adjusts t i k v w r (row_id i t r e), sum_by_push (λ (x : Row). one_if (is_held x)) (without_row i t) (placed_row k v r))
