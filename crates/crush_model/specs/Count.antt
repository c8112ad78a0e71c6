-- Results of tests as numbers, so that they can be added up.
use Rattle.std.specs.Prelude.{ℕ, Bool, if◌then◌else◌}

-- 1 if the test holds, otherwise 0
abbrev pub one_if : Bool → ℕ
one_if b = if b then 1 else 0
