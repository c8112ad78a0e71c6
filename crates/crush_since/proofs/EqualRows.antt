-- Proves that two tables with equal rows for each id have the same rows, in some order.
use Rattle.std.proofs.Common.{◌≡◌, ◌≤◌, Bool, true, false, List, [], ◌∷◌, ap, sym, ◌∙◌, refl, arith, ⊎_elim}
use Rattle.std.specs.Prelude.{None, Some, not, if◌then◌else◌}
use Rattle.crush_units.specs.declared.id.ItemId.{ItemId}
use Rattle.crush_units.specs.Id.{same_id}
use Rattle.crush_units.proofs.Ids.{same_id_refl, same_id_tells}
use Rattle.crush_model.specs.Columns.{without_row}
use Rattle.crush_model.specs.Count.{one_if}
use Rattle.crush_model.specs.Reordered.{IsReordered, nothing, keep, through}
use Rattle.crush_model.specs.Table.{Row, row_of}
use Rattle.crush_model.proofs.Found.{Distinct, times, times-cons, row_of-absent}
use Rattle.crush_model.proofs.Moved.{last_row}
use Rattle.crush_model.proofs.Reorder.{reordered_comm}

-- after the row of an id is removed, the table has no row with this id
times-gone : (i : ItemId) (t : List Row) → times i (without_row i t) ≡ 0
times-gone i [] = refl
times-gone i (r ∷ t) = at (same_id r.id i) refl (times-gone i t) where
  at : (b : Bool) → same_id r.id i ≡ b → times i (without_row i t) ≡ 0 → times i (if not b then r ∷ without_row i t else without_row i t) ≡ 0
  at true e rest = rest
  at false e rest = let zero_here : one_if (same_id r.id i) ≡ 0 = ap one_if e in omega (arith, zero_here, rest, times-cons i r (without_row i t))

-- removing a row adds no row
times-less : (i j : ItemId) (t : List Row) → times j (without_row i t) ≤ times j t
times-less i j [] = omega arith
times-less i j (r ∷ t) = at (same_id r.id i) (times-less i j t) where
  at : (b : Bool) → times j (without_row i t) ≤ times j t → times j (if not b then r ∷ without_row i t else without_row i t) ≤ times j (r ∷ t)
  at true rest = omega (arith, rest, times-cons j r t)
  at false rest = omega (arith, rest, times-cons j r t, times-cons j r (without_row i t))

-- removing a row keeps the other rows
others_stay : (i j : ItemId) (t : List Row) → same_id i j ≡ false → row_of (without_row i t) j ≡ row_of t j
others_stay i j [] other = refl
others_stay i j (r ∷ t) other = ⊎_elim
    (λ p. ap (λ b. row_of (if not b then r ∷ without_row i t else without_row i t) j) p.0 ∙ others_stay i j t other ∙ sym (ap (λ b. if b then Some r else row_of t j) (ap (λ x. same_id x j) p.1 ∙ other)))
    (λ p. ap (λ b. row_of (if not b then r ∷ without_row i t else without_row i t) j) p.0 ∙ ap (λ o. if same_id r.id j then Some r else o) (others_stay i j t other))
    (same_id_tells r.id i)

pub equal_rows_reordered : (t u : List Row) → Distinct t → Distinct u → ((i : ItemId) → row_of t i ≡ row_of u i) → IsReordered t u
equal_rows_reordered [] [] dt du same = nothing
equal_rows_reordered [] (r ∷ u) dt du same = absurd (let own : row_of (r ∷ u) r.id ≡ Some r = ap (λ b. if b then Some r else row_of u r.id) (same_id_refl r.id) in let gone : None ≡ Some r = same r.id ∙ own in cc)
equal_rows_reordered (r ∷ t) u dt du same =
    let own : one_if (same_id r.id r.id) ≡ 1 = ap one_if (same_id_refl r.id) in
    let here : row_of u r.id ≡ Some r = sym (same r.id) ∙ ap (λ b. if b then Some r else row_of t r.id) (same_id_refl r.id) in
    let others : (i : ItemId) → row_of t i ≡ row_of (without_row r.id u) i = λ i. ⊎_elim
    (λ p. ap (row_of t) (sym p.1) ∙ row_of-absent t r.id (omega (arith, own, dt r.id, times-cons r.id r t)) ∙ sym (ap (row_of (without_row r.id u)) (sym p.1) ∙ row_of-absent (without_row r.id u) r.id (times-gone r.id u)))
    (λ p. sym (ap (λ b. if b then Some r else row_of t i) p.0) ∙ same i ∙ sym (others_stay r.id i u p.0))
    (same_id_tells r.id i) in
    through (keep (equal_rows_reordered t (without_row r.id u) (λ i. omega (arith, dt i, times-cons i r t)) (λ i. let le = times-less r.id i u in omega (arith, le, du i)) others))
    (through (reordered_comm (r ∷ []) (without_row r.id u)) (last_row r.id u r (du r.id) here))
