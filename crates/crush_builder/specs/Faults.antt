-- The faults of a builder's methods, except for the faults of rules, which are in `Rules`. Each fault has a test on the draft; of the faults whose tests are true, the one with the smallest number is returned. A method that has to allocate memory can also return OutOfMemory, but only if no test is true.
use Rattle.std.specs.Prelude.{ℕ, List, [], ◌∷◌, Option, Some, None, Bool, false, not, ◌&&◌, if◌then◌else◌, nat_lt}
use Rattle.crush_units.specs.declared.id.ItemId.{ItemId}
use Rattle.crush_units.specs.declared.id.ItemId.TheVariants.{Device}
use Rattle.crush_model.specs.Table.{is_there, is_placed, is_device_id}
use Rattle.crush_model.specs.Lawful.{is_too_heavy}
use Rattle.crush_builder.specs.declared.fault.BuildFault.{BuildFault}
use Rattle.crush_builder.specs.declared.fault.BuildFault.TheVariants.{BadWeight, DuplicateId, DuplicateName, UnknownType, UnknownItem, SecondParent, UnknownBucketInRule, TooMany, SumTooLarge, OutOfMemory}
use Rattle.crush_edits.specs.Setting.{has_tunable}
use Rattle.crush_builder.specs.Built.{Draft, with_next_item}
use Rattle.crush_builder.specs.Building.{is_open, has_kind_number, has_kind_name, has_name, has_bucket_id, has_class, names_bucket_kind, is_full_of_devices, is_full_of_buckets, is_full_of_class_ids, is_full_of_kinds, is_full_of_tunables}
use Rattle.crush_units.specs.declared.limits.TheConstants.{HEAVIEST_DEVICE}

-- the number of a fault: of several faults at the same place of a text, the one with the smallest number is reported
abbrev pub build_fault_number : BuildFault → ℕ
build_fault_number BadWeight = 5
build_fault_number DuplicateId = 6
build_fault_number DuplicateName = 7
build_fault_number UnknownType = 8
build_fault_number UnknownItem = 9
build_fault_number SecondParent = 10
build_fault_number UnknownBucketInRule = 13
build_fault_number TooMany = 14
build_fault_number SumTooLarge = 15
build_fault_number OutOfMemory = 16

-- what a returned fault says about the method's tests on the draft: it is the fault of the first test that is true. If the returned fault is OutOfMemory, no test is true
abbrev pub fault_told : BuildFault → Option BuildFault
fault_told OutOfMemory = None
fault_told BadWeight = Some BadWeight
fault_told DuplicateId = Some DuplicateId
fault_told DuplicateName = Some DuplicateName
fault_told UnknownType = Some UnknownType
fault_told UnknownItem = Some UnknownItem
fault_told SecondParent = Some SecondParent
fault_told UnknownBucketInRule = Some UnknownBucketInRule
fault_told TooMany = Some TooMany
fault_told SumTooLarge = Some SumTooLarge

-- the first fault in the list whose test is true, if there is one
abbrev pub first_fault : List (BuildFault × Bool) → Option BuildFault
first_fault [] = None
first_fault (p ∷ ps) = if p.1 then Some p.0 else first_fault ps

-- THE FAULTS that each method can return, with their tests, in the order of their numbers
-- the fault of adding a type: a type has the number, a type has the name, or there are already as many types as the limit allows
abbrev pub kind_fault : Draft → ℕ → List ℕ → Option BuildFault
kind_fault d k n = first_fault ((DuplicateId, has_kind_number d.setting k) ∷ ((DuplicateName, has_kind_name d.setting n) ∷ ((TooMany, is_full_of_kinds d) ∷ [])))

-- the fault of adding a tunable: a tunable has the name, or there are already as many tunables as the limit allows
abbrev pub tunable_fault : Draft → List ℕ → Option BuildFault
tunable_fault d n = first_fault ((DuplicateName, has_tunable d.setting n) ∷ ((TooMany, is_full_of_tunables d) ∷ []))

-- the fault of adding a device: a device has the id, an item has the name, or there are already as many devices as the limit allows
abbrev pub device_fault : Draft → ℕ → List ℕ → Option BuildFault
device_fault d i n = first_fault ((DuplicateId, is_there d.table (Device i)) ∷ ((DuplicateName, has_name d n) ∷ ((TooMany, is_full_of_devices d) ∷ [])))

-- the fault of beginning a bucket: an item has the name, k doesn't name a type that buckets can have, or there are already as many buckets as the limit allows
abbrev pub begin_fault : Draft → List ℕ → List ℕ → Option BuildFault
begin_fault d k n = first_fault ((DuplicateName, has_name d n) ∷ ((UnknownType, not (names_bucket_kind d.setting k)) ∷ ((TooMany, is_full_of_buckets d) ∷ [])))

-- the fault of setting a bucket's id: the id is already the id or a class id of a bucket
abbrev pub id_fault : Draft → ℕ → Option BuildFault
id_fault d b = first_fault ((DuplicateId, has_bucket_id d b) ∷ [])

-- the fault of adding a class id: the id is already the id or a class id of a bucket, the incomplete bucket already has a class id for the class, or this bucket already has as many class ids as the limit allows
abbrev pub class_id_fault : Draft → ℕ → List ℕ → Option BuildFault
class_id_fault d b c = first_fault ((DuplicateId, has_bucket_id d b) ∷ ((DuplicateName, has_class d c) ∷ ((TooMany, is_full_of_class_ids d) ∷ [])))

-- whether a weight is written and is above the maximum weight of a device
abbrev pub is_written_too_heavy : Option ℕ → Bool
is_written_too_heavy None = false
is_written_too_heavy (Some w) = nat_lt HEAVIEST_DEVICE w

-- whether the item is a device whose written weight is too heavy
abbrev pub is_heavy_device : ItemId → Option ℕ → Bool
is_heavy_device i w = is_device_id i && is_written_too_heavy w

-- whether the item is in the table and isn't the bucket that is being filled: a device or a complete bucket
abbrev pub is_closed : Draft → ItemId → Bool
is_closed d i = is_there d.table i && not (is_open d.pending i)

-- the fault of putting an item into a bucket: it is a device with too large a weight, it is neither a device nor a complete bucket, a bucket already holds it, or a bucket or the whole map would be too heavy if the item were added
abbrev pub item_fault : Draft → ItemId → Option ℕ → Option BuildFault
item_fault d i w =
    first_fault ((BadWeight, is_heavy_device i w) ∷ ((UnknownItem, not (is_closed d i)) ∷ ((SecondParent, is_placed d.table i) ∷ ((SumTooLarge, is_too_heavy (with_next_item d i w).table) ∷ []))))
