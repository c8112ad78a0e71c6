-- A walk over the rows of the tree that shows what has changed. The walk finds the rows of a part, which are an item's own row and the rows below it.
use Rattle.std.specs.Prelude.{ℕ, ◌-◌, List, [], ◌∷◌, if◌then◌else◌, nat_lt}
use Rattle.crush_units.specs.declared.id.ItemId.{ItemId}
use Rattle.crush_since.specs.ChangePart.{in_part, is_own_row, rows_at, rows_below}
use Rattle.crush_since.specs.Changes.{ChangeData}
use Rattle.crush_since.specs.declared.changes.rows.TreeRow.{TreeRow}
use Rattle.crush_since.specs.declared.changes.part.Reached.{Reached}
use Rattle.crush_since.specs.declared.changes.part.Reached.TheVariants.{Before, Within, After}

-- the row r with its id and its depth replaced
abbrev pub row_at : ItemId → TreeRow → ℕ → TreeRow
row_at i r depth = record { id = i; pair = r.pair; depth = depth; stands = r.stands }

-- where the walk is when it visits the row x: before the part, within it or after it
abbrev pub reach : ItemId → Reached → ChangeData → Reached
reach i Before x = if is_own_row i x then Within x.depth else Before
reach i (Within top) x = if nat_lt top x.depth then Within top else After
reach i After x = After

-- a list that has the row, with its depth in the part, if the walk is within the part; otherwise the empty list
abbrev pub row_reached : Reached → ChangeData → List ChangeData
row_reached Before x = []
row_reached (Within top) x = in_part top x ∷ []
row_reached After x = []

-- a list that has the row as the code stores it (`TreeRow`), with its depth in the part, if the walk is within the part; otherwise the empty list
abbrev pub rows_reached : Reached → TreeRow → List TreeRow
rows_reached Before r = []
rows_reached (Within top) r = row_at r.id r (r.depth - top) ∷ []
rows_reached After r = []

-- those rows of the part that are among the rows which the walk hasn't visited yet
abbrev pub rows_from : ItemId → Reached → List ChangeData → List ChangeData
rows_from i Before rows = rows_at i rows
rows_from i (Within top) rows = rows_below top rows
rows_from i After rows = []
