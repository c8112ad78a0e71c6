-- Changes of the class of a device.
use Rattle.std.specs.Prelude.{ℕ, List, Option, None, ◌==◌, if◌then◌else◌}
use Rattle.crush_model.specs.Items.{LeafData, Items, none, device, bucket}

-- the device with the class c, or without a class if c is None, if the device has the id i; otherwise the device unchanged
abbrev pub leaf_with_class : ℕ → Option (List ℕ) → LeafData → LeafData
leaf_with_class i c d = if d.id == i then record d { class = c } else d

-- the items in which each device that has the id i, at any depth, has the class c, or no class if c is None
abbrev pub with_class : ℕ → Option (List ℕ) → Items → Items
with_class i c none = none
with_class i c (device d rest) = device (leaf_with_class i c d) (with_class i c rest)
with_class i c (bucket h w m kids rest) = bucket h w m (with_class i c kids) (with_class i c rest)

-- the first of the items is a device
abbrev pub IsLeaf : Items → Type 0
IsLeaf none = ⊥
IsLeaf (device d rest) = Unit {0}
IsLeaf (bucket h w m kids rest) = ⊥

-- the class of the first of the items, if this item is a device that has a class
abbrev pub class_of_first : Items → Option (List ℕ)
class_of_first none = None
class_of_first (device d rest) = d.class
class_of_first (bucket h w m kids rest) = None

-- the items in which each device among the items themselves has the class c, or no class if c is None; the items below them are unchanged
abbrev pub with_own_class : Option (List ℕ) → Items → Items
with_own_class c none = none
with_own_class c (device d rest) = device (record d { class = c }) (with_own_class c rest)
with_own_class c (bucket h w m kids rest) = bucket h w m kids (with_own_class c rest)
