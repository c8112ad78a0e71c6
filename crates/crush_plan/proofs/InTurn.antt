-- Edits of classes that are sorted by their ranks.
use Rattle.std.proofs.Common.{◌≡◌, ◌⊎◌, ℕ, ◌+◌, ◌*◌, ◌<◌, ◌≤◌, List, inl, inr, refl, arith, true}
use Rattle.std.proofs.Math.Nat.{eq-or-lt_of_le}
use Rattle.std.specs.List.Sorted.{IsNonDecreasingBy}
use Rattle.std.specs.Prelude.{slice_index_or}
use Rattle.crush_plan.specs.declared.classes.ClassStep.{ClassStep}
use Rattle.crush_plan.specs.declared.classes.StepKind.{StepKind}
use Rattle.crush_plan.specs.declared.classes.StepKind.TheVariants.{Remove, Set}
use Rattle.crush_plan.specs.Classes.{IsClassByClass, kind_rank, rank, removes_first}

-- a number that is at most another one is smaller, or equal
or_equal : {P : Type 0} (m n : ℕ) → P → (m ≡ n) ⊎ (m < n) → (m < n) ⊎ ((m ≡ n) × P)
or_equal m n p (inl same) = inr (same, p)
or_equal m n p (inr less) = inl less

at_most : {P : Type 0} (m n : ℕ) → m ≤ n → P → (m < n) ⊎ ((m ≡ n) × P)
at_most m n le p = or_equal m n p (eq-or-lt_of_le le)

-- an edit of at most the rank of another one may come before it
by_numbers : (m n : ℕ) (j k : StepKind) → 2 * m + kind_rank j ≤ 2 * n + kind_rank k → (m < n) ⊎ ((m ≡ n) × (removes_first j k ≡ true))
by_numbers m n Remove Remove le = at_most m n (omega (arith, le)) refl
by_numbers m n Remove Set le = at_most m n (omega (arith, le)) refl
by_numbers m n Set Remove le = inl (omega (arith, le))
by_numbers m n Set Set le = at_most m n (omega (arith, le)) refl

-- edits whose ranks don't fall are class by class
pub by_rank : (steps : List ClassStep) → IsNonDecreasingBy rank steps → IsClassByClass steps
by_rank steps up i j d le lt = by_numbers _ _ (slice_index_or steps i d).kind (slice_index_or steps j d).kind (up i j d le lt)
