-- The weights of the devices of one class, at each item of a table.
use Rattle.std.specs.Prelude.{ℕ, Bool, false, List, Option, Some, None, if◌then◌else◌, nat_lt}
use Rattle.std.specs.List.{count_by}
use Rattle.crush_units.specs.declared.id.ItemId.{ItemId}
use Rattle.crush_model.specs.Classes.{class_sum, has_class}
use Rattle.crush_model.specs.Columns.{is_part}
use Rattle.crush_model.specs.Table.{Row}

-- whether a device of the table has the class
abbrev pub is_class : List Row → List ℕ → Bool
is_class t c = nat_lt 0 (count_by (has_class c) t)

-- whether the item is a device of the class, or has such a device below it
abbrev pub has_class_at : List Row → ItemId → List ℕ → Bool
has_class_at t i c = nat_lt 0 (count_by (λ (r : Row). if is_part t i r.id then has_class c r else false) t)

-- WEIGHT OF A CLASS: the total weight of all devices of the class that are the item itself or below it; none if there is no such device
abbrev pub weight_of_class : List Row → List ℕ → ItemId → Option ℕ
weight_of_class t c i = if has_class_at t i c then Some (class_sum t i c) else None
