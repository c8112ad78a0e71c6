-- What a row adds to sums is, in a lawful table, the weight in the row.
use Rattle.std.proofs.Common.{◌≡◌, ℕ, List, [], ◌∷◌, ap, sym, refl, arith}
use Rattle.std.specs.Prelude.{if◌then◌else◌, All, is_some}
use Rattle.std.specs.List.{sum_by}
use Rattle.std.proofs.lemmas.List.Sums.{sum_by-cons}
use Rattle.std.proofs.lemmas.List.Elements.{All-head, All-tail}
use Rattle.crush_units.specs.declared.id.ItemId.{ItemId}
use Rattle.crush_units.specs.declared.id.ItemId.TheVariants.{Device, Bucket}
use Rattle.crush_model.specs.Table.{Row, is_device_id, is_below, sum_below, summed_weight, total}
use Rattle.crush_model.specs.Lawful.{IsRow, IsRowOf, Lawful}

-- what one well-formed row adds is the weight in the row
pub summed_weight-row : (r : Row) → IsRow r → summed_weight r ≡ r.weight
summed_weight-row r row = by_id r.id row.form where
  by_id : (i : ItemId) → IsRowOf i r → (if is_device_id i then r.weight else 0) ≡ r.weight
  by_id (Device d) form = refl
  by_id (Bucket b) form = sym form.weight

-- so the weights of all rows that pass a test can be added
sum-rows : (which : Row → ℕ → ℕ) (t : List Row) → All IsRow t → sum_by (λ (r : Row). which r (summed_weight r)) t ≡ sum_by (λ (r : Row). which r r.weight) t
sum-rows which [] rows = refl
sum-rows which (r ∷ t) rows =
    let same : which r (summed_weight r) ≡ which r r.weight = ap (which r) (summed_weight-row r (All-head IsRow r t rows)) in
    omega (arith, same, sum_by-cons (λ (x : Row). which x (summed_weight x)) r t, sum_by-cons (λ (x : Row). which x x.weight) r t, sum-rows which t (All-tail IsRow r t rows))

pub sum_below-weights : (t : List Row) → Lawful t → (b : ℕ) → sum_below t b ≡ sum_by (λ (r : Row). if is_below t b r.id then r.weight else 0) t
sum_below-weights t l b = sum-rows (λ r w. if is_below t b r.id then w else 0) t l.rows

pub total-weights : (t : List Row) → Lawful t → total t ≡ sum_by (λ (r : Row). if is_some r.parent then r.weight else 0) t
total-weights t l = sum-rows (λ r w. if is_some r.parent then w else 0) t l.rows
