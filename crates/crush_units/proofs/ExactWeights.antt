-- A weight's millionths, and the two laws of its exact text.
use Rattle.std.proofs.Common.{◌≡◌, ℕ, ◌+◌, ◌*◌, ◌/◌, ◌%◌, ◌<◌, ◌≤◌, ◌^◌, true, List, [], ◌∷◌, length, drop, refl, ap, ◌∙◌, arith}
use Rattle.std.proofs.lemmas.Fmt.{length-decimal-le, decimal_is_IsNumeral}
use Rattle.std.specs.Prelude.{decimal, Ok}
use Rattle.std.specs.Str.Parse.{digits_value, digits_value_after}
use Rattle.crush_units.specs.Weight.{units_of, digit, are_digits, weight_of_text, number_in, fraction_of}
use Rattle.crush_units.specs.ExactWeight.{exact_parts, exact_text, cut_of}
use Rattle.crush_units.proofs.ReadBack.{all_digits, digit_is, digit_passes, passes, of_parts, weight_is}

-- the millionths of a weight, rounded to the nearest unit, are the weight's units
pub parts_read_back : (w : ℕ) → w < 2 ^ 32 → units_of (exact_parts w) 6 ≡ w
parts_read_back w h = omega arith

-- the millionths of a weight, rounded down to units, are the weight's units
pub parts_cut_back : (w : ℕ) → w < 2 ^ 32 → cut_of (exact_parts w) 6 ≡ w
parts_cut_back w h = omega arith

-- a number is composed of its whole part and six digits
pub seven_parts : (h : ℕ) → (((((h / 1000000 * 10 + h / 100000 % 10) * 10 + h / 10000 % 10) * 10 + h / 1000 % 10) * 10 + h / 100 % 10) * 10 + h / 10 % 10) * 10 + h % 10 ≡ h
seven_parts h = omega arith

-- the whole part of a weight has at most five digits
pub exact_part_short : (w : ℕ) → w < 2 ^ 32 → length (decimal (exact_parts w / 1000000)) ≤ 5
exact_part_short w h = length-decimal-le 5 (exact_parts w / 1000000) (omega arith) (omega arith) (omega arith)

-- the last six digits of a number
abbrev six : ℕ → List ℕ
six n = digit (n / 100000) ∷ digit (n / 10000) ∷ digit (n / 1000) ∷ digit (n / 100) ∷ digit (n / 10) ∷ digit n ∷ []

-- six digits may follow the point
six_pass : (n : ℕ) → are_digits 18 (six n) ≡ true
six_pass n = rw (digit_passes (n / 100000), digit_passes (n / 10000), digit_passes (n / 1000), digit_passes (n / 100), digit_passes (n / 10), digit_passes n) refl

-- all digits of the exact text as one number
value_is : (n : ℕ) → digits_value 10 (decimal (n / 1000000)) ≡ n / 1000000 → digits_value_after 10 (digits_value 10 (decimal (n / 1000000))) (six n) ≡ n
value_is n whole = rw (whole, digit_is (n / 100000), digit_is (n / 10000), digit_is (n / 1000), digit_is (n / 100), digit_is (n / 10), digit_is n) (seven_parts n)

-- the exact text is read as the same weight
pub exact_read_again : (w : ℕ) → w < 2 ^ 32 → weight_of_text (exact_text w) ≡ Ok w
exact_read_again w h =
    let n = exact_parts w in
    let d = decimal_is_IsNumeral (n / 1000000) (omega arith) in
    let few : length (decimal (n / 1000000)) ≤ 5 = exact_part_short w h in
    weight_is (decimal (n / 1000000)) (six n) d.0.1 n w
    (passes 10 (decimal (n / 1000000)) d.0.0 (omega arith) (all_digits _ d.0.1))
    (six_pass n) (value_is n d.1) (parts_read_back w h) (omega arith)

-- the exact text, rounded down to units, is the same weight
pub exact_cut_again : (w : ℕ) → w < 2 ^ 32 → cut_of (number_in (exact_text w)) (length (fraction_of (exact_text w))) ≡ w
exact_cut_again w h =
    let n = exact_parts w in
    let d = decimal_is_IsNumeral (n / 1000000) (omega arith) in
    of_parts (decimal (n / 1000000)) (six n) d.0.1
    (λ (whole tail : List ℕ). cut_of (digits_value_after 10 (digits_value 10 whole) (drop 1 tail)) (length (drop 1 tail)) ≡ w)
    (ap (λ (v : ℕ). cut_of v 6) (value_is n d.1) ∙ parts_cut_back w h)
