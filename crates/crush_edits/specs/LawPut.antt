-- Laws about puts, which put an item into the bucket of the first stop of a route: the steps of the code give the table of the put, and this table is lawful. Most of the laws require that the table is lawful and that the stops are a route (IsRoute). The laws in which an item is detached also require that the receiver is neither the item nor below it (IsApart), and that there are not too many items.
use Rattle.std.specs.Prelude.{◌≡◌, ◌+◌, ◌<◌, ◌≤◌, ◌++◌, [], ℕ, List, Some, None, IfSome, true, false, length, bytes_eq}
use Rattle.std.specs.List.{count_by}
use Rattle.crush_units.specs.declared.id.ItemId.{ItemId}
use Rattle.crush_units.specs.declared.id.ItemId.TheVariants.{Device, Bucket}
use Rattle.crush_units.specs.Id.{same_id}
use Rattle.crush_model.specs.Items.{LeafData, Items, none, device}
use Rattle.crush_model.specs.ItemRows.{rows, device_row}
use Rattle.crush_model.specs.Table.{Row, row_of, is_there, is_named, device_count, bucket_count}
use Rattle.crush_model.specs.Same.{Same}
use Rattle.crush_model.specs.Law.{IsOne}
use Rattle.crush_model.specs.Lawful.{IsRow, Lawful, is_too_heavy, has_too_many}
use Rattle.crush_model.specs.Columns.{is_part, table_without, part}
use Rattle.crush_edits.specs.declared.location.Pair.{Pair}
use Rattle.crush_edits.specs.Stops.{StopData, stops, fresh_stops, receiver}
use Rattle.crush_edits.specs.Put.{new_buckets, next_place, put, held}
use Rattle.crush_edits.specs.Boxes.{boxes}
use Rattle.crush_edits.specs.New.{IsRoute}
use Rattle.crush_edits.specs.Changed.{same_table}
use Rattle.crush_edits.specs.Placing.{edited_device}
use Rattle.crush_edits.specs.Setting.{SettingData}
use Rattle.crush_edits.specs.Fits.{HasKind, Fits}
use Rattle.crush_edits.specs.LawRoute.{rows_made}
use Rattle.crush_units.specs.declared.limits.TheConstants.{HEAVIEST_DEVICE, MOST_BUCKETS, MOST_DEVICES}
use Rattle.crush_edits.specs.declared.edit.Edit.TheVariants.{Place}
use Rattle.crush_edits.specs.declared.edit.Placing.TheVariants.{Insert}
use Rattle.crush_edits.specs.declared.refusal.Refusal.TheVariants.{NoRoom}
use Rattle.crush_edits.specs.Answer.{first_refusal}
use Rattle.crush_edits.specs.Edit.{refusal}
use Rattle.crush_edits.specs.Located.{located_device_tests, end_tests}

-- the new buckets of a route as nested items, with the items n in the lowest new bucket
abbrev pub route_boxes : ℕ → Items → List Row → List StopData → Items
route_boxes m n t ps = boxes m n (new_buckets t ps)

-- the receiver (the bucket that ends the route), if there is one, is neither the item itself nor below the item
abbrev pub IsApart : List Row → ItemId → List StopData → Type 0
IsApart t i ps = IfSome (receiver t ps) (λ b. is_part t i (Bucket b) ≡ false)

-- no two rows have the same id
abbrev pub OnceIds : List Row → Type 0
OnceIds t = (i : ItemId) → count_by (λ (r : Row). same_id r.id i) t ≤ 1

-- PUT IN STEPS: the rows of the new buckets are appended, the item is detached with everything below it, and it is attached in the lowest new bucket (or in the receiver, if no bucket is new). The result is the table of the put, except for the order of the rows: each bucket has its items in the same order
abbrev pub PutMoves : Type 0
PutMoves = (t : List Row) (ps : List StopData) (r : Row) (n : Items) → Lawful t → IsRoute t ps → row_of t r.id ≡ Some r → IsApart t r.id ps → has_too_many (put t r ps) ≡ false → IsOne n → Same (rows None n) (part r.id (t ++ rows_made t ps))
    → Same (table_without r.id (t ++ rows_made t ps) ++ rows (next_place t ps) n) (put t r ps)

-- the law PutMoves for a device that gets another weight before it is attached
abbrev pub PutMovesDevice : Type 0
PutMovesDevice = (t : List Row) (ps : List StopData) (r : Row) (d : LeafData) (w : ℕ) → Lawful t → IsRoute t ps → row_of t r.id ≡ Some r → IsApart t r.id ps → has_too_many (put t (record r { weight = w }) ps) ≡ false → Same (rows None (device d none)) (part r.id (t ++ rows_made t ps))
    → Same (table_without r.id (t ++ rows_made t ps) ++ rows (next_place t ps) (device (record d { weight = w }) none)) (put t (record r { weight = w }) ps)

-- the law PutMoves for a device that the table doesn't have, so that nothing is detached
abbrev pub PutsNew : Type 0
PutsNew = (t : List Row) (ps : List StopData) (d : LeafData) → Lawful t → IsRoute t ps → is_there t (Device d.id) ≡ false → Same ((t ++ rows_made t ps) ++ rows (next_place t ps) (device d none)) (put t (device_row None d) ps)

-- the law PutMoves for the other order of the steps: the item is detached before the rows of the new buckets are appended
abbrev pub PutTakes : Type 0
PutTakes = (t : List Row) (ps : List StopData) (r : Row) (n : Items) → Lawful t → IsRoute t ps → row_of t r.id ≡ Some r → IsApart t r.id ps → has_too_many (put t r ps) ≡ false → IsOne n → Same (rows None n) (part r.id t)
    → Same ((table_without r.id t ++ rows_made t ps) ++ rows (next_place t ps) n) (put t r ps)

-- PUT IN ONE STEP, for the test of sums: the item is detached, and the new buckets are attached with the item already in them. In the resulting table no id occurs twice. The sums of this table are too large if and only if the sums of the table of the put are too large
abbrev pub PutsBoxed : Type 0
PutsBoxed = (m : ℕ) (t : List Row) (ps : List StopData) (r : Row) (n : Items) → Lawful t → IsRoute t ps → row_of t r.id ≡ Some r → IsApart t r.id ps → has_too_many (put t r ps) ≡ false → IsOne n → Same (rows None n) (part r.id t)
    → OnceIds (table_without r.id t ++ rows (receiver t ps) (route_boxes m n t ps)) × (is_too_heavy (table_without r.id t ++ rows (receiver t ps) (route_boxes m n t ps)) ≡ is_too_heavy (put t r ps))

-- the law PutsBoxed for a device that gets another weight before it is attached
abbrev pub PutsBoxedDevice : Type 0
PutsBoxedDevice = (m : ℕ) (t : List Row) (ps : List StopData) (r : Row) (d : LeafData) (w : ℕ) → Lawful t → IsRoute t ps → row_of t r.id ≡ Some r → IsApart t r.id ps → has_too_many (put t (record r { weight = w }) ps) ≡ false → Same (rows None (device d none)) (part r.id t)
    → OnceIds (table_without r.id t ++ rows (receiver t ps) (route_boxes m (device (record d { weight = w }) none) t ps))
    × (is_too_heavy (table_without r.id t ++ rows (receiver t ps) (route_boxes m (device (record d { weight = w }) none) t ps)) ≡ is_too_heavy (put t (record r { weight = w }) ps))

-- the law PutsBoxed for a device that the table doesn't have, so that nothing is detached
abbrev pub PutsBoxedNew : Type 0
PutsBoxedNew = (m : ℕ) (t : List Row) (ps : List StopData) (d : LeafData) → Lawful t → IsRoute t ps → is_there t (Device d.id) ≡ false
    → OnceIds (t ++ rows (receiver t ps) (route_boxes m (device d none) t ps)) × (is_too_heavy (t ++ rows (receiver t ps) (route_boxes m (device d none) t ps)) ≡ is_too_heavy (put t (device_row None d) ps))

-- LAWFUL AFTER: putting an item of a lawful table, with w as the item's weight, gives a lawful table if four conditions hold. The receiver is neither the item nor below it. With the weight w, the item's row is valid in any bucket. No sum of the result is too large. The result doesn't have too many items
abbrev pub PutKeepsLawful : Type 0
PutKeepsLawful = (t : List Row) (ps : List StopData) (r : Row) (w : ℕ) → Lawful t → IsRoute t ps → row_of t r.id ≡ Some r → IsApart t r.id ps → ((b : ℕ) → IsRow (record r { parent = Some b; weight = w }))
    → is_too_heavy (put t (record r { weight = w }) ps) ≡ false → has_too_many (put t (record r { weight = w }) ps) ≡ false → Lawful (put t (record r { weight = w }) ps)

-- the law PutKeepsLawful for a device that the table doesn't have. Here no row and no stop may have the name of the device
abbrev pub PutNewKeepsLawful : Type 0
PutNewKeepsLawful = (t : List Row) (ps : List StopData) (d : LeafData) → Lawful t → IsRoute t ps → is_there t (Device d.id) ≡ false → is_named t d.name ≡ false → count_by (λ (p : StopData). bytes_eq p.name d.name) ps ≡ 0 → ((b : ℕ) → IsRow (device_row (Some b) d))
    → is_too_heavy (put t (device_row None d) ps) ≡ false → has_too_many (put t (device_row None d) ps) ≡ false → Lawful (put t (device_row None d) ps)

-- COUNTS, for the test of room: putting an item of the table leaves the number of devices unchanged, and adds one bucket for each stop of the route for which a bucket is created (fresh_stops)
abbrev pub PutCounts : Type 0
PutCounts = (t : List Row) (ps : List StopData) (r : Row) (w : ℕ) → Lawful t → IsRoute t ps → row_of t r.id ≡ Some r
    → (device_count (put t (record r { weight = w }) ps) ≡ device_count t) × (bucket_count (put t (record r { weight = w }) ps) ≡ bucket_count t + length (fresh_stops t ps))

-- the law PutCounts for a device that the table doesn't have. There is one more device afterwards
abbrev pub PutNewCounts : Type 0
PutNewCounts = (t : List Row) (ps : List StopData) (d : LeafData) → Lawful t → IsRoute t ps → is_there t (Device d.id) ≡ false
    → (device_count (put t (device_row None d) ps) ≡ device_count t + 1) × (bucket_count (put t (device_row None d) ps) ≡ bucket_count t + length (fresh_stops t ps))

-- CHANGES: putting an item of the table changes the table, unless the bucket of the lowest stop already holds the item
abbrev pub PutChanges : Type 0
PutChanges = (t : List Row) (ps : List StopData) (r : Row) → Lawful t → IsRoute t ps → is_there t r.id ≡ true → held t r.id ps ≡ false → same_table t (put t r ps) ≡ false

-- putting a device that the table doesn't have changes the table
abbrev pub PutNewChanges : Type 0
PutNewChanges = (t : List Row) (ps : List StopData) (d : LeafData) → Lawful t → IsRoute t ps → is_there t (Device d.id) ≡ false → same_table t (put t (device_row None d) ps) ≡ false

-- THE SETTING: if a setting fits the table and has the type of the item, it still fits the table after the item is put
abbrev pub PutFits : Type 0
PutFits = (s : SettingData) (t : List Row) (l : List Pair) (r : Row) → Fits s t → HasKind s r → Fits s (put t r (stops s l))

-- A ROUTE WITHOUT NEW BUCKETS: no rows are appended for new buckets, and the item is put into the receiver
abbrev pub NoneNew : Type 0
NoneNew = (t : List Row) (ps : List StopData) → fresh_stops t ps ≡ [] → (rows_made t ps ≡ []) × (next_place t ps ≡ receiver t ps)

-- if no bucket is new, detaching the item and attaching it in the receiver gives the table of the put, except for the order of the rows: each bucket has its items in the same order
abbrev pub PutMovesOnly : Type 0
PutMovesOnly = (t : List Row) (ps : List StopData) (r : Row) (n : Items) → Lawful t → IsRoute t ps → fresh_stops t ps ≡ [] → row_of t r.id ≡ Some r → IsApart t r.id ps → has_too_many (put t r ps) ≡ false → IsOne n → Same (rows None n) (part r.id t)
    → Same (table_without r.id t ++ rows (receiver t ps) n) (put t r ps)

-- the bucket into which the item is put is still in the table after the new buckets are appended and the item is detached
abbrev pub NextStays : Type 0
NextStays = (t : List Row) (ps : List StopData) (r : Row) → Lawful t → IsRoute t ps → row_of t r.id ≡ Some r → IsApart t r.id ps → has_too_many (t ++ rows_made t ps) ≡ false
    → IfSome (next_place t ps) (λ b. is_there (table_without r.id (t ++ rows_made t ps)) (Bucket b) ≡ true)

-- a valid row stays valid if it gets another bucket as its parent. The row of a device stays valid if it also gets another weight that is in range
abbrev pub FormStays : Type 0
FormStays = (r : Row) → IsRow r → ((b : ℕ) → IsRow (record r { parent = Some b })) × ((d b w : ℕ) → r.id ≡ Device d → w ≤ HEAVIEST_DEVICE → IsRow (record r { parent = Some b; weight = w }))

-- if an edit places a device of the table under the name that the device already has, then the row that the edit puts is the device's own row, except for the parent and the weight
abbrev pub EditedIsOwn : Type 0
EditedIsOwn = (t : List Row) (d w : ℕ) (r : Row) → Lawful t → row_of t (Device d) ≡ Some r → edited_device t d r.name w ≡ record r { parent = None; weight = w }

-- if there are not too many items after an item of the table is put, then there are also not too many if only the new buckets are appended
abbrev pub RoomForNew : Type 0
RoomForNew = (t : List Row) (ps : List StopData) (r : Row) (w : ℕ) → Lawful t → IsRoute t ps → row_of t r.id ≡ Some r → has_too_many (put t (record r { weight = w }) ps) ≡ false → has_too_many (t ++ rows_made t ps) ≡ false

-- the law RoomForNew for a device that the table doesn't have
abbrev pub RoomForNewDevice : Type 0
RoomForNewDevice = (t : List Row) (ps : List StopData) (d : LeafData) → Lawful t → IsRoute t ps → is_there t (Device d.id) ≡ false → has_too_many (put t (device_row None d) ps) ≡ false → has_too_many (t ++ rows_made t ps) ≡ false

-- NO ROOM: if a table has 65,536 devices or more, then inserting a device that the table doesn't have is refused with NoRoom, unless a test of the location, of the device or of the end of the route holds
abbrev pub FullOfDevices : Type 0
FullOfDevices = (s : SettingData) (t : List Row) (d : ℕ) (n : List ℕ) (w : ℕ) (l : List Pair) → Lawful t → IsRoute t (stops s l) → is_there t (Device d) ≡ false
    → first_refusal (located_device_tests s t d n w l) ≡ None → first_refusal (end_tests t (stops s l)) ≡ None → MOST_DEVICES ≤ device_count t → refusal s t (Place Insert d n w l) ≡ Some NoRoom

-- the law FullOfDevices for a table that would have more than 4,096 buckets after the new buckets of the route are added
abbrev pub FullOfBuckets : Type 0
FullOfBuckets = (s : SettingData) (t : List Row) (d : ℕ) (n : List ℕ) (w : ℕ) (l : List Pair) → Lawful t → IsRoute t (stops s l) → is_there t (Device d) ≡ false
    → first_refusal (located_device_tests s t d n w l) ≡ None → first_refusal (end_tests t (stops s l)) ≡ None → MOST_BUCKETS < bucket_count t + length (fresh_stops t (stops s l)) → refusal s t (Place Insert d n w l) ≡ Some NoRoom
