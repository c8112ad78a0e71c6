-- The new buckets of a route, each inside the next, and the table after an item is put into the bucket of the first stop.
use Rattle.std.specs.Prelude.{ℕ, List, [], ◌∷◌, ◌++◌, Option, Some, None, Bool, false, length}
use Rattle.crush_units.specs.declared.id.ItemId.{ItemId}
use Rattle.crush_units.specs.declared.id.ItemId.TheVariants.{Bucket}
use Rattle.crush_units.specs.declared.alg.Alg.TheVariants.{Straw2}
use Rattle.crush_units.specs.Id.{same_id}
use Rattle.crush_model.specs.Items.{HeaderData}
use Rattle.crush_model.specs.ItemRows.{bucket_row}
use Rattle.crush_model.specs.Table.{Row, id_named, parent_of, free_ids}
use Rattle.crush_model.specs.Columns.{without_row}
use Rattle.crush_edits.specs.Stops.{StopData, fresh_stops, receiver}

-- a new bucket: the distance of its id below 0, the number of its type, and its name
pub record NewData : Type 0 where
  pub id : ℕ
  pub kind : ℕ
  pub name : List ℕ

-- the header of a new bucket, which has the algorithm straw2 and no class ids
abbrev pub new_header : NewData → HeaderData
new_header n = record { id = n.id; kind = n.kind; name = n.name; alg = Straw2; class_ids = [] }

-- the new buckets, the lowest first: the first new bucket gets the first id and the type and name of the first stop, and so on
abbrev pub with_ids : List ℕ → List StopData → List NewData
with_ids [] ps = []
with_ids (i ∷ ids) [] = []
with_ids (i ∷ ids) (p ∷ ps) = record { id = i; kind = p.kind; name = p.name } ∷ with_ids ids ps

-- the buckets that a route creates, with the free ids nearest to 0
abbrev pub new_buckets : List Row → List StopData → List NewData
new_buckets t ps = with_ids (free_ids t (length (fresh_stops t ps))) (fresh_stops t ps)

-- the bucket into which an item is put: the lowest of the new buckets, or `top` if there are no new buckets
abbrev pub next_up : List NewData → Option ℕ → Option ℕ
next_up [] top = top
next_up (n ∷ ns) top = Some n.id

-- the rows of new buckets from the lowest up: the parent of each new bucket is the next one, and the parent of the last is `top`
abbrev pub chain : List NewData → Option ℕ → List Row
chain [] top = []
chain (n ∷ ns) top = bucket_row (next_up ns top) (new_header n) ∷ chain ns top

-- the bucket into which the item is put: the lowest new bucket if the route creates buckets, and otherwise the receiver
abbrev pub next_place : List Row → List StopData → Option ℕ
next_place t ps = next_up (new_buckets t ps) (receiver t ps)

-- the table without the item's row, followed by the rows of the new buckets and the item's row. The parent in the item's row is the lowest new bucket, or `top` if there are no new buckets
abbrev pub put_at : List Row → Row → List NewData → Option ℕ → List Row
put_at t r ns top = without_row r.id t ++ (chain ns top ++ record r { parent = next_up ns top } ∷ [])

-- PUT: the table after the new buckets of the route are created, and the item with the row r is put into the bucket of the first stop
abbrev pub put : List Row → Row → List StopData → List Row
put t r ps = put_at t r (new_buckets t ps) (receiver t ps)

-- whether there are a parent and an id, and the parent is the bucket with this id
abbrev pub is_id : Option ℕ → Option ItemId → Bool
is_id None i = false
is_id (Some p) None = false
is_id (Some p) (Some i) = same_id (Bucket p) i

-- HELD: whether the item's parent is the bucket of the lowest stop
abbrev pub held : List Row → ItemId → List StopData → Bool
held t i [] = false
held t i (p ∷ ps) = is_id (parent_of t i) (id_named t p.name)
