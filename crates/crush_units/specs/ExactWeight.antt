-- The exact text of a weight, with six digits after the point. Programs that round a weight down to units, such as crushtool, read the same weight from this text.
use Rattle.std.specs.Prelude.{◌≡◌, ℕ, ◌+◌, ◌*◌, ◌/◌, ◌^◌, ◌<◌, List, ◌∷◌, [], ◌++◌, length, Ok, decimal}
use Rattle.crush_units.specs.Weight.{weight_of_text, number_in, fraction_of, digit}

-- the weight in millionths of 1.0, rounded up to a whole number
abbrev pub exact_parts : ℕ → ℕ
exact_parts units = (units * 1000000 + 65535) / 65536

-- the exact text of a weight: the whole part, a point and six digits
abbrev pub exact_text : ℕ → List ℕ
exact_text units =
    decimal (exact_parts units / 1000000) ++ 46 ∷ digit (exact_parts units / 100000)
    ∷ digit (exact_parts units / 10000) ∷ digit (exact_parts units / 1000)
    ∷ digit (exact_parts units / 100) ∷ digit (exact_parts units / 10) ∷ digit (exact_parts units)
    ∷ []

-- a decimal number, rounded down to units. The first argument is the number that all its digits form without the point. The second argument is how many of these digits are after the point
abbrev pub cut_of : ℕ → ℕ → ℕ
cut_of number places = number * 65536 / 10 ^ places

-- the exact text of any weight is read as the same weight
abbrev pub ExactIsReadBack : Type 0
ExactIsReadBack = (units : ℕ) → units < 2 ^ 32 → weight_of_text (exact_text units) ≡ Ok units

-- the number in the exact text of any weight, rounded down to units, is the same weight
abbrev pub ExactIsCutBack : Type 0
ExactIsCutBack = (units : ℕ) → units < 2 ^ 32 →
    cut_of (number_in (exact_text units)) (length (fraction_of (exact_text units))) ≡ units
