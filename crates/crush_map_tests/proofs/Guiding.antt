-- Lemmas about the places of items that a guide finds by searching the forest.
use Rattle.std.proofs.Common.{◌≡◌, ℕ, true, List, ap, sym, ◌∙◌, refl, true≢false}
use Rattle.std.specs.Prelude.{Option, Some, None, is_some, option_and_then}
use Rattle.std.specs.Option.{option_map}
use Rattle.crush_units.specs.Id.{is_device_id}
use Rattle.crush_units.specs.declared.id.ItemId.{ItemId}
use Rattle.crush_model.specs.Table.{Row, row_of, parent_of, is_there, is_device}
use Rattle.crush_model.proofs.Moved.{row_id}
use Rattle.crush_nodes.specs.Guides.{place_in, place_under}

-- an item that exists is at the place that its parent determines
pub stands_under : (t : List Row) (i : ItemId) (p : Option ℕ) → is_there t i ≡ true → p ≡ parent_of t i → Some (place_under (is_device_id i) p) ≡ place_in t i
stands_under t i p there parent = by_row (row_of t i) refl there parent where
  by_row : (o : Option Row) → row_of t i ≡ o → is_some o ≡ true → p ≡ option_and_then (λ (r : Row). r.parent) o → Some (place_under (is_device_id i) p) ≡ option_map (λ (r : Row). place_under (is_device r) r.parent) o
  by_row None e h is = absurd (true≢false (sym h))
  by_row (Some r) e h is = ap (λ q. Some (place_under (is_device_id i) q)) is ∙ ap (λ j. Some (place_under (is_device_id j) r.parent)) (sym (row_id i t r e))
