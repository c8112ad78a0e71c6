-- The order in which a plan sets the classes of devices.
use Rattle.std.specs.Prelude.{◌≡◌, ◌⊎◌, ℕ, ◌+◌, ◌*◌, ◌<◌, ◌≤◌, Bool, true, false, List, length, slice_index_or}
use Rattle.crush_plan.specs.declared.classes.ClassStep.{ClassStep}
use Rattle.crush_plan.specs.declared.classes.StepKind.{StepKind}
use Rattle.crush_plan.specs.declared.classes.StepKind.TheVariants.{Remove, Set}

-- whether an edit of the first kind may come before an edit of the second kind, if both are for the same class. The answer is false only if the first edit sets the class of a device, and the second edit removes the old class of a device
abbrev pub removes_first : StepKind → StepKind → Bool
removes_first Remove k = true
removes_first Set Remove = false
removes_first Set Set = true

-- the edit a may come before the edit b: the class of a first occurs earlier in the wanted map than the class of b, or both edits are for the same class and `removes_first` holds for their kinds
abbrev pub MayPrecede : ClassStep → ClassStep → Type 0
MayPrecede a b = (a.first_use < b.first_use) ⊎ ((a.first_use ≡ b.first_use) × (removes_first a.kind b.kind ≡ true))

-- CLASS BY CLASS: each edit may come before all edits that follow it in the list. So between the edit that removes the old class of a device and the edit that sets its new class, there are only edits for this new class
abbrev pub IsClassByClass : List ClassStep → Type 0
IsClassByClass steps = (i j : ℕ) (d : ClassStep) → i ≤ j → j < length steps → MayPrecede (slice_index_or steps i d) (slice_index_or steps j d)

-- `rank`: the number by which the edits are sorted, the lowest first. `kind_rank` decides the order of the edits for the same class
abbrev pub kind_rank : StepKind → ℕ
kind_rank Remove = 0
kind_rank Set = 1

abbrev pub rank : ClassStep → ℕ
rank step = 2 * step.first_use + kind_rank step.kind
