-- The weight of the devices of a class.
use Rattle.std.specs.Prelude.{ℕ, List, Option, Some, None, Bool, if◌then◌else◌, bytes_eq}
use Rattle.std.specs.List.{sum_by}
use Rattle.std.specs.Option.{option_eq}
use Rattle.crush_units.specs.declared.id.ItemId.{ItemId}
use Rattle.crush_model.specs.Table.{Row, is_there, summed_weight}
use Rattle.crush_model.specs.Columns.{is_part}

-- whether a row has the class. In a lawful table only devices have a class
abbrev pub has_class : List ℕ → Row → Bool
has_class c r = option_eq bytes_eq r.class (Some c)

-- the weight that a row adds to the weight of a class: the weight of the device if the row is that of a device of the class, and otherwise 0
abbrev pub classed_weight : List ℕ → Row → ℕ
classed_weight c r = if has_class c r then summed_weight r else 0

-- the sum of the weights of all devices of the class that are the item itself or below it
abbrev pub class_sum : List Row → ItemId → List ℕ → ℕ
class_sum t i c = sum_by (λ (r : Row). if is_part t i r.id then classed_weight c r else 0) t

-- the sum of the class (class_sum) for an item that is in the table, and none for any other item
abbrev pub class_weight_of : List Row → ItemId → List ℕ → Option ℕ
class_weight_of t i c = if is_there t i then Some (class_sum t i c) else None
