-- How the places in an index have to be updated after a change of the table of rows. In a law with `old` and `new`, the places `old` are right for the table before the change, and the places `new` are right for the table after it. In a law with `places`, no update is needed: the same places are right before and after.
use Rattle.std.specs.Prelude.{◌≡◌, ℕ, List, [], ◌∷◌, ◌++◌, Some, None, Bool, false}
use Rattle.std.specs.Option.{option_map}
use Rattle.crush_units.specs.declared.id.ItemId.{ItemId}
use Rattle.crush_model.specs.Table.{Row, is_device, is_there}
use Rattle.crush_model.specs.Lawful.{Lawful}
use Rattle.crush_model.specs.Same.{Same}
use Rattle.crush_model.specs.Columns.{set_weights, set_name, without_row, swap_buckets}
use Rattle.crush_nodes.specs.Guides.{place_under}
use Rattle.crush_walks.specs.Swapping.{exchanged_place}
use Rattle.crush_index.specs.declared.places.Places.{Places}
use Rattle.crush_index.specs.PlacesAnswers.{ArePlacesOf, place_answer, StandsAt}

-- places that are right for a lawful table are right for each table that has the same rows, and in which each bucket has the same items in the same order
abbrev pub PlacesOfSame : Type 0
PlacesOfSame =
    (places : Places) (t u : List Row) → Lawful t → Same t u → ArePlacesOf t places → ArePlacesOf u places

-- new weights need no update
abbrev pub PlacesOfWeights : Type 0
PlacesOfWeights =
    (places : Places) (t : List Row) (which : Row → Bool) (w : ℕ) → ArePlacesOf t places → ArePlacesOf (set_weights which w t) places

-- a new name needs no update
abbrev pub PlacesOfNames : Type 0
PlacesOfNames =
    (places : Places) (t : List Row) (i : ItemId) (name : List ℕ) → ArePlacesOf t places → ArePlacesOf (set_name i name t) places

-- a row is added at the end, with an id that no row has: its item gets the place that the row's parent gives
abbrev pub PlacesFollowRow : Type 0
PlacesFollowRow =
    (old new : Places) (t : List Row) (r : Row) → ArePlacesOf t old → is_there t r.id ≡ false → StandsAt old new r.id (Some (place_under (is_device r) r.parent))
    → ArePlacesOf (t ++ r ∷ []) new

-- an item's row is removed: the item then has no place in the index
abbrev pub PlacesFollowWithout : Type 0
PlacesFollowWithout =
    (old new : Places) (t : List Row) (i : ItemId) → ArePlacesOf t old → StandsAt old new i None → ArePlacesOf (without_row i t) new

-- an item's row is removed, and a row r with the same id is added at the end: the item gets the place that the parent of r gives
abbrev pub PlacesFollowMove : Type 0
PlacesFollowMove =
    (old new : Places) (t : List Row) (r : Row) → ArePlacesOf t old → StandsAt old new r.id (Some (place_under (is_device r) r.parent)) → ArePlacesOf (without_row r.id t ++ r ∷ []) new

-- the buckets a and b exchange their names and items: an item that was in a gets the place b, and an item that was in b gets the place a
abbrev pub PlacesFollowSwap : Type 0
PlacesFollowSwap =
    (old new : Places) (t : List Row) (a b : ℕ) → ArePlacesOf t old → ((i : ItemId) → place_answer new i ≡ option_map (exchanged_place a b) (place_answer old i))
    → ArePlacesOf (swap_buckets a b t) new
