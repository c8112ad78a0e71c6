-- Laws about routes and about the buckets that they create.
use Rattle.std.specs.Prelude.{◌≡◌, ℕ, ◌≤◌, List, [], ◌∷◌, ◌++◌, Option, Some, None, IfSome, false, ◌==◌, length, All, bytes_eq}
use Rattle.std.specs.List.{sum_by, count_by}
use Rattle.crush_units.specs.Name.{IsName}
use Rattle.crush_model.specs.Items.{Items}
use Rattle.crush_model.specs.ItemRows.{rows}
use Rattle.crush_model.specs.Table.{Row, is_device_id, sum_below, total}
use Rattle.crush_model.specs.Lawful.{Lawful, has_too_many}
use Rattle.crush_edits.specs.declared.location.Pair.{Pair}
use Rattle.crush_edits.specs.Stops.{StopData, with_stop, stops, end_id, receiver}
use Rattle.crush_edits.specs.Put.{NewData, new_buckets, next_up, chain, next_place}
use Rattle.crush_edits.specs.Boxes.{boxes, last_first}
use Rattle.crush_edits.specs.New.{IsRoute, AreNew}
use Rattle.crush_edits.specs.Located.{is_bad_location, has_no_kind, names_it}
use Rattle.crush_edits.specs.Setting.{SettingData, kind_number}
use Rattle.crush_edits.specs.Fits.{Fits}
use Rattle.crush_units.specs.declared.limits.TheConstants.{MOST_PAIRS}

-- the rows of the new buckets of a route, from the uppermost down, in the order in which a forest stores them
abbrev pub rows_made : List Row → List StopData → List Row
rows_made t ps = last_first (chain (new_buckets t ps) (receiver t ps))

-- STOPS: adding a pair to a location adds the pair's stop, if the pair's type is known
abbrev pub StopsStep : Type 0
StopsStep = (s : SettingData) (l : List Pair) (p : Pair) → stops s (l ++ p ∷ []) ≡ with_stop (kind_number s p.kind) p.name (stops s l)

-- the stops are in ascending order of their type numbers
abbrev pub Rises : List StopData → Type 0
Rises [] = Unit {0}
Rises (p ∷ ps) = All (λ (q : StopData). p.kind ≤ q.kind) ps × Rises ps

-- the stops of each location are in ascending order of their type numbers
abbrev pub StopsRise : Type 0
StopsRise = (s : SettingData) (l : List Pair) → Rises (stops s l)

-- the value of f for the stop of a pair. If the pair's type is unknown, the pair has no stop, and the value is 0
abbrev pub of_stop : (StopData → ℕ) → Option ℕ → List ℕ → ℕ
of_stop f None n = 0
of_stop f (Some k) n = f (record { kind = k; name = n })

-- the stops are exactly the pairs of known types: each function f has the same sum over the stops as over these pairs
abbrev pub StopsArePairs : Type 0
StopsArePairs = (s : SettingData) (l : List Pair) (f : StopData → ℕ) → sum_by f (stops s l) ≡ sum_by (λ (p : Pair). of_stop f (kind_number s p.kind) p.name) l

-- ROUTES: if the setting fits the table, a valid location passes its tests, and the item that ends its route, if there is one, isn't a device, then the stops of the location are a route
abbrev pub LocationIsRoute : Type 0
LocationIsRoute = (s : SettingData) (t : List Row) (l : List Pair) → Fits s t → All (λ (p : Pair). IsName p.name) l → length l ≤ MOST_PAIRS → is_bad_location s l ≡ false → has_no_kind s l ≡ false → (length l == 0) ≡ false
    → IfSome (end_id t (stops s l)) (λ i. is_device_id i ≡ false) → IsRoute t (stops s l)

-- if no pair of a location has the name n as the name of its bucket, then no stop of the location has the name n
abbrev pub OtherIsNoStop : Type 0
OtherIsNoStop = (s : SettingData) (l : List Pair) (n : List ℕ) → names_it l n ≡ false → count_by (λ (p : StopData). bytes_eq p.name n) (stops s l) ≡ 0

-- the new buckets of a route can be added to a lawful table: their ids and names are unused, and the receiver, if there is one, is in the table
abbrev pub RouteIsFresh : Type 0
RouteIsFresh = (t : List Row) (ps : List StopData) → Lawful t → IsRoute t ps → AreNew t (new_buckets t ps) (receiver t ps)

-- for each route there is a bucket into which the item is put
abbrev pub RouteLeads : Type 0
RouteLeads = (t : List Row) (ps : List StopData) → IsRoute t ps → (b : ℕ) × (next_place t ps ≡ Some b)

-- NEW BUCKETS: if new buckets are nested as items, their rows are the rows that a put appends for them, but from the uppermost bucket down. The rows of the items in the lowest new bucket follow
abbrev pub BoxesAreRows : Type 0
BoxesAreRows = (m : ℕ) (n : Items) (ns : List NewData) (top : Option ℕ) → rows top (boxes m n ns) ≡ last_first (chain ns top) ++ rows (next_up ns top) n

-- a lawful table stays lawful after the new buckets of a route are appended, if there are not too many items afterwards
abbrev pub NewKeepsLawful : Type 0
NewKeepsLawful = (t : List Row) (ps : List StopData) → Lawful t → IsRoute t ps → has_too_many (t ++ rows_made t ps) ≡ false → Lawful (t ++ rows_made t ps)

-- appending the new buckets of a route changes neither the sum below any bucket nor the total
abbrev pub NewKeepsSums : Type 0
NewKeepsSums = (t : List Row) (ps : List StopData) → Lawful t → IsRoute t ps → ((b : ℕ) → sum_below (t ++ rows_made t ps) b ≡ sum_below t b) × (total (t ++ rows_made t ps) ≡ total t)
