-- The weight of the devices of one class among items.
use Rattle.std.specs.Prelude.{ℕ, ◌+◌, List, Some, if◌then◌else◌, bytes_eq}
use Rattle.std.specs.Option.{option_eq}
use Rattle.crush_model.specs.Items.{LeafData, Items, none, device, bucket}

-- the weight of the device if it has the class c, otherwise 0
abbrev pub leaf_class_weight : List ℕ → LeafData → ℕ
leaf_class_weight c d = if option_eq bytes_eq d.class (Some c) then d.weight else 0

-- the sum of the weights of all devices that have the class c, at any depth
abbrev pub class_sum_in : List ℕ → Items → ℕ
class_sum_in c none = 0
class_sum_in c (device d rest) = leaf_class_weight c d + class_sum_in c rest
class_sum_in c (bucket h w m kids rest) = class_sum_in c kids + class_sum_in c rest
