-- How an `item` line in a bucket of a map's text changes the table.
use Rattle.std.specs.Prelude.{ℕ, ◌==◌, List, ◌++◌, Option, Some, None, not, if◌then◌else◌, map, filter}
use Rattle.crush_units.specs.declared.id.ItemId.{ItemId}
use Rattle.crush_units.specs.declared.id.ItemId.TheVariants.{Device, Bucket}
use Rattle.crush_units.specs.declared.limits.TheConstants.{UNITS_OF_ONE}
use Rattle.crush_units.specs.Id.{same_id}
use Rattle.crush_model.specs.Count.{one_if}
use Rattle.crush_model.specs.Table.{Row, is_device, sum_below}
use Rattle.crush_model.specs.Columns.{without_row}

-- the row of an item after it is put into bucket b: its parent is b, and a device gets the weight w
abbrev pub placed_row : ℕ → ℕ → Row → Row
placed_row b w r = record r { parent = Some b; weight = if is_device r then w else r.weight }

-- the table after the item i is put into bucket b: its row is taken out, changed as `placed_row` says, and appended at the end
abbrev pub put_below : ℕ → ItemId → ℕ → List Row → List Row
put_below b i w t = without_row i t ++ map (placed_row b w) (filter (λ (r : Row). same_id r.id i) t)

-- the weight of a device in units: the weight that the line gives, or 1.0 if it gives none
abbrev pub weight_or_one : Option ℕ → ℕ
weight_or_one None = UNITS_OF_ONE
weight_or_one (Some w) = w

-- 1 if the item is a bucket and the line gives a weight that differs from the sum of the weights of the devices below the bucket; otherwise 0
abbrev pub adjustment : List Row → ItemId → Option ℕ → ℕ
adjustment t (Device x) w = 0
adjustment t (Bucket b) None = 0
adjustment t (Bucket b) (Some w) = one_if (not (w == sum_below t b))
