-- Histories whose entries are pairs: a number of changes and a weight.
use Rattle.std.specs.Prelude.{ℕ, List, [], ◌∷◌}

-- the number of changes in the last pair; 0 if there is no pair
abbrev pub changes_of : List (ℕ × ℕ) → ℕ
changes_of [] = 0
changes_of (e ∷ []) = e.0
changes_of (e ∷ (f ∷ h)) = changes_of (f ∷ h)

-- the weight in the last pair; the opening's weight o if there is no pair
abbrev pub weight_behind : ℕ → List (ℕ × ℕ) → ℕ
weight_behind o [] = o
weight_behind o (e ∷ []) = e.1
weight_behind o (e ∷ (f ∷ h)) = weight_behind o (f ∷ h)
