-- If no test of a builder's method finds a fault, then the method can only fail with OutOfMemory.
use Rattle.std.proofs.Common.{◌≡◌, ℕ, Bool, List, true, false, [], ◌∷◌, Option, None, refl, sym, ◌∙◌}
use Rattle.std.specs.Prelude.{Some, is_some, if◌then◌else◌}
use Rattle.crush_units.specs.declared.id.ItemId.{ItemId}
use Rattle.crush_units.specs.declared.id.ItemId.TheVariants.{Device, Bucket}
use Rattle.crush_model.specs.Table.{is_there}
use Rattle.crush_builder.specs.Built.{Draft}
use Rattle.crush_builder.specs.Building.{BuilderData, IsDraft, has_name, is_full_of_devices, is_open}
use Rattle.crush_builder.specs.declared.fault.BuildFault.{BuildFault}
use Rattle.crush_builder.specs.declared.fault.BuildFault.TheVariants.{BadWeight, DuplicateId, DuplicateName, UnknownType, UnknownItem, SecondParent, UnknownBucketInRule, TooMany, SumTooLarge, OutOfMemory}
use Rattle.crush_edits.specs.declared.rule.Rule.{Rule}
use Rattle.crush_builder.specs.declared.fault.RuleFault.{RuleFault}
use Rattle.crush_builder.specs.Rules.{is_full_of_rules, rule_fault, rule_told}
use Rattle.crush_text.specs.Room.{IsFreeRule}
use Rattle.crush_builder.specs.Faults.{fault_told, first_fault, device_fault, is_heavy_device, is_closed}

-- the only fault of a builder that no test finds is OutOfMemory
is_out_of_memory : (f : BuildFault) → None ≡ fault_told f → f ≡ OutOfMemory
is_out_of_memory BadWeight e = absurd (let no : ◌≡◌ {A = Option BuildFault} None (Some BadWeight) = e in cc)
is_out_of_memory DuplicateId e = absurd (let no : ◌≡◌ {A = Option BuildFault} None (Some DuplicateId) = e in cc)
is_out_of_memory DuplicateName e = absurd (let no : ◌≡◌ {A = Option BuildFault} None (Some DuplicateName) = e in cc)
is_out_of_memory UnknownType e = absurd (let no : ◌≡◌ {A = Option BuildFault} None (Some UnknownType) = e in cc)
is_out_of_memory UnknownItem e = absurd (let no : ◌≡◌ {A = Option BuildFault} None (Some UnknownItem) = e in cc)
is_out_of_memory SecondParent e = absurd (let no : ◌≡◌ {A = Option BuildFault} None (Some SecondParent) = e in cc)
is_out_of_memory UnknownBucketInRule e = absurd (let no : ◌≡◌ {A = Option BuildFault} None (Some UnknownBucketInRule) = e in cc)
is_out_of_memory TooMany e = absurd (let no : ◌≡◌ {A = Option BuildFault} None (Some TooMany) = e in cc)
is_out_of_memory SumTooLarge e = absurd (let no : ◌≡◌ {A = Option BuildFault} None (Some SumTooLarge) = e in cc)
is_out_of_memory OutOfMemory e = refl

-- if neither of two tests finds its fault, then the only fault is OutOfMemory
pub memory_of_two : (f g : BuildFault) (a b : Bool) (h : BuildFault) → a ≡ false → b ≡ false → first_fault ((f, a) ∷ ((g, b) ∷ [])) ≡ fault_told h → h ≡ OutOfMemory
memory_of_two f g true b h x y e = absurd (let no : true ≡ false = x in cc)
memory_of_two f g false true h x y e = absurd (let no : true ≡ false = y in cc)
memory_of_two f g false false h x y e = is_out_of_memory h e

-- the same for three tests
pub memory_of_three : (f g k : BuildFault) (a b c : Bool) (h : BuildFault) → a ≡ false → b ≡ false → c ≡ false → first_fault ((f, a) ∷ ((g, b) ∷ ((k, c) ∷ []))) ≡ fault_told h → h ≡ OutOfMemory
memory_of_three f g k true b c h x y z e = absurd (let no : true ≡ false = x in cc)
memory_of_three f g k false b c h x y z e = memory_of_two g k b c h y z e

-- an item without a written weight doesn't have the fault that a device is too heavy
pub light_unwritten : (i : ItemId) → is_heavy_device i None ≡ false
light_unwritten (Device n) = refl
light_unwritten (Bucket b) = refl

-- an item of the table that isn't the bucket being filled is complete
pub closed_so : (b : BuilderData) (d : Draft) (i : ItemId) → IsDraft b d → is_there d.table i ≡ true → is_open b.pending i ≡ false → is_closed d i ≡ true
closed_so b d i h there shut = rw (there, ← h.pending, shut) refl

-- if there is room for a rule, and its name and its id are free, then adding it can only fail with OutOfMemory
pub memory_of_rule : (d : Draft) (r : Rule) (f : RuleFault) → is_full_of_rules d ≡ false → IsFreeRule d r → rule_fault d r ≡ rule_told f → f.fault ≡ OutOfMemory
memory_of_rule d r f room free e = is_out_of_memory f.fault (untold (fault_told f.fault) (sym none ∙ e))
  where
    none : rule_fault d r ≡ None
    none = rw (room, free.name, free.id, free.steps) refl

    untold : (o : Option BuildFault) → None ≡ (if is_some o then Some f else None) → None ≡ o
    untold None e = refl
    untold (Some x) e = absurd (let no : ◌≡◌ {A = Option RuleFault} None (Some f) = e in cc)

-- a device with a free id and a free name has no fault if there is room
pub free_device : (d : Draft) (i : ℕ) (n : List ℕ) → is_there d.table (Device i) ≡ false → has_name d n ≡ false → is_full_of_devices d ≡ false → device_fault d i n ≡ None
free_device d i n id name room = rw (id, name, room) refl
