-- Which edits a plan may have: a line of a script must be able to express the edit, the edit must create no bucket that its location names, and the edit must be only about items of the part.
use Rattle.std.specs.Prelude.{◌≡◌, ℕ, Bool, true, false, ◌||◌, List, [], ◌∷◌, Option, None, Some, is_some}
use Rattle.std.specs.List.{list_all}
use Rattle.std.specs.Option.{option_map_or}
use Rattle.crush_units.specs.declared.id.ItemId.{ItemId}
use Rattle.crush_units.specs.declared.id.ItemId.TheVariants.{Device, Bucket}
use Rattle.crush_model.specs.Table.{Row, id_named, is_below, name_of}
use Rattle.crush_edits.specs.declared.edit.Edit.{Edit}
use Rattle.crush_edits.specs.declared.edit.Edit.TheVariants.{Place, Move, Swap, Reweight, ReweightSubtree, Remove, AddBucket, Rename, SetClass, RemoveClass}
use Rattle.crush_edits.specs.declared.location.Pair.{Pair}
use Rattle.crush_compare.specs.Named.{is_in}
use Rattle.crush_history.specs.Said.{IsSaid}

-- an item that an edit is about: the name by which the edit names the item, and the name that the item has after the edit. The second name is `None` if the edit removes the item. `called` lists all items that an edit is about. The buckets of a location aren't among them
pub record Called : Type 0 where
  pub before : List ℕ
  pub behind : Option (List ℕ)

abbrev pub keeps_name : List ℕ → List Called
keeps_name n = record { before = n; behind = Some n } ∷ []

abbrev pub called : Edit → List Called
called (Place how d n w l) = keeps_name n
called (Move n l) = keeps_name n
called (Swap a b) = record { before = a; behind = Some b } ∷ record { before = b; behind = Some a } ∷ []
called (Reweight n w) = keeps_name n
called (ReweightSubtree n w) = keeps_name n
called (Remove n) = record { before = n; behind = None } ∷ []
called (AddBucket n kind) = keeps_name n
called (Rename from to) = record { before = from; behind = Some to } ∷ []
called (SetClass n c) = keeps_name n
called (RemoveClass n) = keeps_name n

-- `was_in_part`: whether the table t has an item with this name, and the part of the old table has an item with the same id. If no part is selected, each id counts as one of the old table. `will_be_in_part`: whether the new table has an item with this name, and this item is in the part of the new table
abbrev pub was_in_part : List Row → Option (List ℕ) → List Row → List ℕ → Bool
was_in_part old under t name = option_map_or (is_in under old) (id_named t name) false

abbrev pub will_be_in_part : List Row → Option (List ℕ) → List ℕ → Bool
will_be_in_part new under name = option_map_or (is_in under new) (id_named new name) false

abbrev pub is_called_in : List Row → List Row → Option (List ℕ) → List Row → Called → Bool
is_called_in old new under t c = was_in_part old under t c.before || option_map_or (will_be_in_part new under) c.behind false

-- CONCERNS: if a part is selected, then for each item that the edit is about, at least one of two statements is true. First, the part of the old table has an item with the item's id. Second, the part of the new table has an item with the name that the item has after the edit. Here t is the table to which the edit is applied
abbrev pub concerns : List Row → List Row → Option (List ℕ) → List Row → Edit → Bool
concerns old new None t e = true
concerns old new (Some part) t e = list_all (is_called_in old new (Some part) t) (called e)

-- whether the part of the old table has an item with the id i, or the part of the new table has an item with the name that the item i has in the table t. If no part is selected, each id counts as one of the old table
abbrev pub is_item_in_part : List Row → List Row → Option (List ℕ) → List Row → ItemId → Bool
is_item_in_part old new under t i = is_in under old i || option_map_or (will_be_in_part new under) (name_of t i) false

-- each item below the bucket meets the test `is_item_in_part`. For a device, or if there is no item, nothing is required
abbrev pub HasPartBelow : List Row → List Row → Option (List ℕ) → List Row → Option ItemId → Type 0
HasPartBelow old new under t None = Unit {0}
HasPartBelow old new under t (Some (Device d)) = Unit {0}
HasPartBelow old new under t (Some (Bucket b)) = (i : ItemId) → is_below t b i ≡ true → is_item_in_part old new under t i ≡ true

-- WEIGHS PART: if the edit sets all weights below a bucket, then each item below this bucket meets the test `is_item_in_part`. For any other edit, nothing is required
abbrev pub WeighsPart : List Row → List Row → Option (List ℕ) → List Row → Edit → Type 0
WeighsPart old new under t (Place how d n w l) = Unit {0}
WeighsPart old new under t (Move n l) = Unit {0}
WeighsPart old new under t (Swap a b) = Unit {0}
WeighsPart old new under t (Reweight n w) = Unit {0}
WeighsPart old new under t (ReweightSubtree n w) = HasPartBelow old new under t (id_named t n)
WeighsPart old new under t (Remove n) = Unit {0}
WeighsPart old new under t (AddBucket n kind) = Unit {0}
WeighsPart old new under t (Rename from to) = Unit {0}
WeighsPart old new under t (SetClass n c) = Unit {0}
WeighsPart old new under t (RemoveClass n) = Unit {0}

-- the location of an edit; no pairs if the edit has no location
abbrev pub location_of : Edit → List Pair
location_of (Place how d n w l) = l
location_of (Move n l) = l
location_of (Swap a b) = []
location_of (Reweight n w) = []
location_of (ReweightSubtree n w) = []
location_of (Remove n) = []
location_of (AddBucket n kind) = []
location_of (Rename from to) = []
location_of (SetClass n c) = []
location_of (RemoveClass n) = []

-- whether the table has an item with the name of each bucket of the location, so that the edit creates none of these buckets
abbrev pub are_there : List Row → List Pair → Bool
are_there t l = list_all (λ (p : Pair). is_some (id_named t p.name)) l

-- ALLOWED: a line of a script can express the edit, the edit creates no bucket that its location names, and the edit is only about items of the part. If the edit sets all weights below a bucket, then each item below this bucket meets the test `is_item_in_part`
pub record IsAllowed (old new : List Row) (under : Option (List ℕ)) (t : List Row) (e : Edit) : Type 0 where
  pub said : IsSaid e
  pub there : are_there t (location_of e) ≡ true
  pub concerned : concerns old new under t e ≡ true
  pub below : WeighsPart old new under t e
