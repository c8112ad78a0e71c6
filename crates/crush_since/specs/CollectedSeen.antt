-- How the types `ClassItem` and `ClassUse` of the code are seen as plain data.
use Rattle.std.specs.Prelude.{ℕ}
use Rattle.crush_since.specs.Collected.{Amount, old_weight, new_weight, old_devices, new_devices, takes, ClassData}
use Rattle.crush_since.specs.declared.since.collected.Source.{Source}
use Rattle.crush_since.specs.declared.since.collected.Source.TheVariants.{Old, New, Rule}
use Rattle.crush_since.specs.declared.since.collected.ClassItem.{ClassItem}
use Rattle.crush_since.specs.declared.since.collected.ClassUse.{ClassUse}

-- what a device of the old map, a device of the new map, or a step of a rule adds to each amount
abbrev pub added : Source → ℕ → Amount → ℕ
added Old w old_weight = w
added Old w new_weight = 0
added Old w old_devices = 1
added Old w new_devices = 0
added Old w takes = 0
added New w old_weight = 0
added New w new_weight = w
added New w old_devices = 0
added New w new_devices = 1
added New w takes = 0
added Rule w old_weight = 0
added Rule w new_weight = 0
added Rule w old_devices = 0
added Rule w new_devices = 0
added Rule w takes = 1

abbrev pub item_data : ClassItem → ClassData
item_data x = record { name = x.name.now; amount = added x.source x.weight }

abbrev pub use_amount : ClassUse → Amount → ℕ
use_amount x old_weight = x.old_weight
use_amount x new_weight = x.new_weight
use_amount x old_devices = x.old_devices
use_amount x new_devices = x.new_devices
use_amount x takes = x.takes

abbrev pub use_data : ClassUse → ClassData
use_data x = record { name = x.name.now; amount = use_amount x }
