-- When the weights that two maps give to one item count as equal with the report `Remaining`, which is for the differences that remain after a plan.
use Rattle.std.specs.Prelude.{ℕ, ◌+◌, nat_lt, Bool, true, not, ◌||◌}
use Rattle.crush_units.specs.declared.id.ItemId.{ItemId}
use Rattle.crush_units.specs.declared.id.ItemId.TheVariants.{Device, Bucket}

-- two weights are near if they are at most one unit apart. Ceph's `crushtool -c` may cut one unit off when it reads a weight
abbrev pub are_near : ℕ → ℕ → Bool
are_near a b = not (nat_lt (a + 1) b || nat_lt (b + 1) a)

abbrev pub same_weight : ItemId → ℕ → ℕ → Bool
same_weight (Device d) a b = are_near a b
same_weight (Bucket b) a c = true
