-- A device's own row: its parent and its weight.
use Rattle.std.proofs.Common.{◌≡◌, ℕ, ◌≤◌, false, List, [], ◌∷◌, sym, subst, refl}
use Rattle.std.specs.Prelude.{Option, Some, None, is_some}
use Rattle.std.specs.Option.{option_map}
use Rattle.crush_units.specs.declared.id.ItemId.{ItemId}
use Rattle.crush_units.specs.declared.id.ItemId.TheVariants.{Device}
use Rattle.crush_units.specs.declared.limits.TheConstants.{HEAVIEST_DEVICE}
use Rattle.crush_model.specs.Table.{Row, row_of, parent_of, is_placed, weight_of, item_weight, id_named}
use Rattle.crush_model.specs.Lawful.{Lawful, IsRowOf}
use Rattle.crush_model.proofs.Moved.{row_id}
use Rattle.crush_edits.specs.Put.{held, is_id}
use Rattle.crush_edits.specs.Stops.{StopData}
use Rattle.crush_edits.proofs.Tails.{row_form}

-- an item that is in no bucket isn't held by the bucket of the lowest stop
pub unplaced_free : (t : List Row) (i : ItemId) (ps : List StopData) → is_placed t i ≡ false → held t i ps ≡ false
unplaced_free t i [] h = refl
unplaced_free t i (p ∷ ps) h = by_parent (parent_of t i) h where
  by_parent : (o : Option ℕ) → is_some o ≡ false → is_id o (id_named t p.name) ≡ false
  by_parent None e = refl
  by_parent (Some b) e = absurd cc

-- the own weight of a device is in the range of devices' weights
pub own_light : (t : List Row) (d v : ℕ) → Lawful t → Some v ≡ weight_of t (Device d) → v ≤ HEAVIEST_DEVICE
own_light t d v lawful is = by_row (row_of t (Device d)) refl is where
  by_row : (o : Option Row) → row_of t (Device d) ≡ o → Some v ≡ option_map (item_weight t (Device d)) (option_map (λ (r : Row). r.weight) o) → v ≤ HEAVIEST_DEVICE
  by_row None e f = absurd cc
  by_row (Some r) e f =
      let form : IsRowOf (Device d) r = subst (λ i. IsRowOf i r) (row_id (Device d) t r e) (row_form t lawful (Device d) r e).form in
      let same : v ≡ r.weight = cc in
      subst (λ x. x ≤ HEAVIEST_DEVICE) (sym same) form.light
