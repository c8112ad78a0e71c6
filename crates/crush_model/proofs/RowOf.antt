-- The row of an id after rows are appended or removed.
use Rattle.std.proofs.Common.{◌≡◌, Bool, true, false, List, [], ◌∷◌, ◌++◌, ap, sym, ◌∙◌, refl, ⊎_elim}
use Rattle.std.specs.Prelude.{not, if◌then◌else◌, Option, Some, None, is_some}
use Rattle.crush_units.specs.declared.id.ItemId.{ItemId}
use Rattle.crush_units.specs.Id.{same_id}
use Rattle.crush_units.proofs.Ids.{same_id_refl, same_id_tells, equal_same_id, distinct_same_id}
use Rattle.crush_model.specs.Table.{Row, row_of, is_there}
use Rattle.crush_model.specs.Columns.{without_row}
use Rattle.crush_model.proofs.Appended.{row_of-append}
use Rattle.crush_model.proofs.Removed.{row_of-only}

choose : {X : Type 0} (b c : Bool) (x y : X) → b ≡ c → (if b then x else y) ≡ (if c then x else y)
choose b c x y e = ap (λ z. if z then x else y) e

itself : (o : Option Row) → (if is_some o then o else None) ≡ o
itself None = refl
itself (Some r) = refl

-- after a row with a new id is appended
pub row_of-last : (t : List Row) (r : Row) (i : ItemId) → is_there t r.id ≡ false → row_of (t ++ r ∷ []) i ≡ (if same_id r.id i then Some r else row_of t i)
row_of-last t r i fresh = row_of-append t (r ∷ []) i ∙ ⊎_elim
    (λ yes.
    choose (is_there t i) false (row_of t i) (row_of (r ∷ []) i) (ap (is_there t) (sym yes.1) ∙ fresh)
    ∙ choose (same_id r.id i) true (Some r) None yes.0 ∙ sym (choose (same_id r.id i) true (Some r) (row_of t i) yes.0))
    (λ other.
    ap (λ z. if is_there t i then row_of t i else z) (choose (same_id r.id i) false (Some r) None other.0)
    ∙ itself (row_of t i) ∙ sym (choose (same_id r.id i) false (Some r) (row_of t i) other.0))
    (same_id_tells r.id i)

-- after a row is removed
pub row_of-without_row : (i : ItemId) (t : List Row) (j : ItemId) → row_of (without_row i t) j ≡ (if same_id i j then None else row_of t j)
row_of-without_row i t j = row_of-only (λ k. not (same_id k i)) t j ∙ ⊎_elim
    (λ yes. choose (not (same_id j i)) false (row_of t j) None (ap not (equal_same_id j i (sym yes.1))) ∙ sym (choose (same_id i j) true None (row_of t j) yes.0))
    (λ other. choose (not (same_id j i)) true (row_of t j) None (ap not (distinct_same_id j i (λ e. other.1 (sym e)))) ∙ sym (choose (same_id i j) false None (row_of t j) other.0))
    (same_id_tells i j)

-- an item whose row was removed isn't in the table any more
pub is_there-without_row : (i : ItemId) (t : List Row) → is_there (without_row i t) i ≡ false
is_there-without_row i t = ap is_some (row_of-without_row i t i ∙ choose (same_id i i) true None (row_of t i) (same_id_refl i))

-- after a row is appended in place of a row with the same id
pub row_of-replaced : (t : List Row) (r : Row) (j : ItemId) → row_of (without_row r.id t ++ r ∷ []) j ≡ (if same_id r.id j then Some r else row_of t j)
row_of-replaced t r j =
    row_of-last (without_row r.id t) r j (is_there-without_row r.id t) ∙ ap (λ o. if same_id r.id j then Some r else o) (row_of-without_row r.id t j) ∙ twice (same_id r.id j) where
      twice : (b : Bool) → (if b then Some r else (if b then None else row_of t j)) ≡ (if b then Some r else row_of t j)
      twice true = refl
      twice false = refl
