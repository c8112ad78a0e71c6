-- The edits with a location: Place, in each of its three ways, and Move.
use Rattle.std.specs.Prelude.{ℕ, List, [], ◌∷◌, ◌++◌, None, Bool, not, if◌then◌else◌, length, unwrap_or}
use Rattle.crush_units.specs.declared.id.ItemId.{ItemId}
use Rattle.crush_units.specs.declared.id.ItemId.TheVariants.{Device}
use Rattle.crush_model.specs.Items.{LeafData}
use Rattle.crush_model.specs.ItemRows.{device_row}
use Rattle.crush_model.specs.Table.{Row, row_of, id_named, is_named, is_placed, own_weight_of, class_of}
use Rattle.crush_model.specs.Columns.{set_weight, is_part}
use Rattle.crush_edits.specs.declared.location.Pair.{Pair}
use Rattle.crush_edits.specs.declared.refusal.Refusal.{Refusal}
use Rattle.crush_edits.specs.declared.refusal.Refusal.TheVariants.{NoSuchItem, AlreadyPlaced, Loop}
use Rattle.crush_edits.specs.Setting.{SettingData}
use Rattle.crush_edits.specs.Stops.{StopData, stops, fresh_stops, end_id}
use Rattle.crush_edits.specs.Put.{put, held}
use Rattle.crush_edits.specs.Answer.{After, kept, on_some, meets, room_test, sum_test}
use Rattle.crush_edits.specs.Located.{location_tests, located_device_tests, end_tests}

-- the table after the item with the row r is put into the bucket of the first stop, and the number of buckets that the route creates
abbrev pub put_after : List Row → Row → List StopData → After
put_after t r ps = record { table = put t r ps; made = length (fresh_stops t ps) }

-- the device that an edit puts. It has the id, the name and the weight of the edit. It has the class that the device already has in the table, if it has one
abbrev pub edited_leaf : List Row → ℕ → List ℕ → ℕ → LeafData
edited_leaf t d n w = record { id = d; name = n; weight = w; class = class_of t (Device d) }

-- the row of the device that an edit puts, without a parent
abbrev pub edited_device : List Row → ℕ → List ℕ → ℕ → Row
edited_device t d n w = device_row None (edited_leaf t d n w)

-- the device's own weight if it is in a bucket, otherwise the given weight
abbrev pub kept_weight : List Row → ℕ → ℕ → ℕ
kept_weight t d w = if is_placed t (Device d) then unwrap_or (own_weight_of t (Device d)) w else w

-- INSERT: puts the device with the given weight
abbrev pub after_insert : SettingData → List Row → ℕ → List ℕ → ℕ → List Pair → After
after_insert s t d n w l = put_after t (edited_device t d n w) (stops s l)

-- the refusals of Insert with their tests: those about the device and its location; the device is already in a bucket; those about the end of the route; there are too many items afterwards; a sum is too large afterwards
abbrev pub insert_tests : SettingData → List Row → ℕ → List ℕ → ℕ → List Pair → After → List (Refusal × Bool)
insert_tests s t d n w l a = located_device_tests s t d n w l ++ ((AlreadyPlaced, is_placed t (Device d)) ∷ (end_tests t (stops s l) ++ (room_test a ∷ (sum_test a ∷ []))))

-- CREATE OR MOVE: changes nothing if the bucket of the lowest stop holds the device. Otherwise puts the device. A device that is in a bucket keeps its own weight, and any other device gets the given weight
abbrev pub after_create_or_move : SettingData → List Row → ℕ → List ℕ → ℕ → List Pair → After
after_create_or_move s t d n w l = if held t (Device d) (stops s l) then kept t else put_after t (edited_device t d n (kept_weight t d w)) (stops s l)

-- UPDATE: if the bucket of the lowest stop holds the device, sets only the weight of the device. Otherwise puts the device with the given weight
abbrev pub after_update : SettingData → List Row → ℕ → List ℕ → ℕ → List Pair → After
after_update s t d n w l = if held t (Device d) (stops s l) then kept (set_weight (Device d) w t) else put_after t (edited_device t d n w) (stops s l)

-- the refusals of CreateOrMove and Update with their tests: the same as for Insert, except that the device may already be in a bucket
abbrev pub device_put_tests : SettingData → List Row → ℕ → List ℕ → ℕ → List Pair → After → List (Refusal × Bool)
device_put_tests s t d n w l a = located_device_tests s t d n w l ++ (end_tests t (stops s l) ++ (room_test a ∷ (sum_test a ∷ [])))

-- changes nothing if the bucket of the lowest stop holds the item. Otherwise puts the item, and changes nothing in the item's row except the parent
abbrev pub move_item : SettingData → List Row → List Pair → ItemId → After
move_item s t l i = if held t i (stops s l) then kept t else on_some t (row_of t i) (λ r. put_after t r (stops s l))

-- MOVE: moves the item with the name n, as move_item says
abbrev pub after_move : SettingData → List Row → List ℕ → List Pair → After
after_move s t n l = on_some t (id_named t n) (move_item s t l)

-- whether the item that ends the route is the moved item itself or is below it
abbrev pub makes_loop : List Row → List ℕ → List StopData → Bool
makes_loop t n ps = meets (λ i. meets (is_part t i) (end_id t ps)) (id_named t n)

-- the refusals of Move with their tests: those about the location; no item has the name; those about the end of the route; the move would put the item below itself; there are too many items afterwards; a sum is too large afterwards
abbrev pub move_tests : SettingData → List Row → List ℕ → List Pair → After → List (Refusal × Bool)
move_tests s t n l a = location_tests s l ++ ((NoSuchItem, not (is_named t n)) ∷ (end_tests t (stops s l) ++ ((Loop, makes_loop t n (stops s l)) ∷ (room_test a ∷ (sum_test a ∷ [])))))
