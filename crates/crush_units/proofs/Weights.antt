-- Powers of ten, and numbers that are read digit by digit.
use Rattle.std.proofs.Common.{◌≡◌, ℕ, zero, suc, ◌+◌, ◌-◌, ◌*◌, ◌<◌, ◌≤◌, ◌^◌, true, List, length, drop, get_or, refl, sym, ap, ◌∙◌, arith, lit≤, add-one}
use Rattle.std.proofs.lemmas.Bool.Decides.{nat_tests}
use Rattle.std.proofs.lemmas.List.{drop_more}
use Rattle.std.proofs.lemmas.Str.{digit_value_digit}
use Rattle.std.proofs.Math.Nat.{pow-suc, pow-le-pow_right, mul-le-mul_left}
use Rattle.std.proofs.lemmas.Nat.{mul-le}
use Rattle.std.specs.Prelude.{not, ◌&&◌, ◌==◌, nat_le}
use Rattle.std.specs.Char.{is_ascii_digit, digit_value}
use Rattle.std.specs.List.{list_all}
use Rattle.std.specs.Str.Parse.{digits_value_after}
use Rattle.crush_units.specs.Weight.{are_digits}
use Rattle.crush_units.proofs.Names.{both_true}

-- a power of ten isn't 0
pub power_some : (n : ℕ) → 0 < 10 ^ n
power_some zero = lit≤ tt
power_some (suc n) = rw pow-suc (omega (arith, power_some n))

-- 10 to the power of at most 18 is at most 10^18
pub power_18 : (n : ℕ) → n ≤ 18 → 10 ^ n ≤ 10 ^ 18
power_18 n h = pow-le-pow_right {n = 10} (omega arith) {i = n} {j = 18} h

-- 10 to the power of n + 1 is 10 times 10 to the power of n
pub power_next : (n : ℕ) → 10 ^ (n + 1) ≡ 10 * 10 ^ n
power_next n = rw (add-one, pow-suc) (omega arith)

-- the ASCII byte of a digit is between 48 and 57
pub digit_range : (d : ℕ) → is_ascii_digit d ≡ true → (48 ≤ d) × (d ≤ 57)
digit_range d e = (grind (arith, nat_tests), grind (arith, nat_tests))

-- a text of digits passes the bound on its length
pub few_digits : (most : ℕ) (text : List ℕ) → are_digits most text ≡ true → length text ≤ most
few_digits most text e =
    let outer = both_true (not (length text == 0) && nat_le (length text) most) (list_all is_ascii_digit text) e in
    let few = (both_true (not (length text == 0)) (nat_le (length text) most) outer.0).1 in
    grind (arith, nat_tests, few)

-- after a number of at most 10 digits, there is room for 18 more digits
pub room_behind : (whole fraction number : ℕ) → whole ≤ 10 → fraction ≤ 18 → number < (0 + 1) * 10 ^ whole → (number + 1) * 10 ^ fraction ≤ 10 ^ 28
room_behind whole fraction number few many small =
    let front = pow-le-pow_right {n = 10} (omega arith) {i = whole} {j = 10} few in
    let back = power_18 fraction many in
    let first : number + 1 ≤ 10 ^ 10 = omega (arith, front, small) in
    mul-le (number + 1) (10 ^ fraction) (10 ^ 10) (10 ^ 18) first back

-- how one more digit changes the number that is being read
pub record Grows (start number digit place : ℕ) (digits : List ℕ) : Type 0 where
  pub small : number * 10 + (digit - 48) < (start + 1) * 10 ^ (place + 1)
  pub low : 48 ≤ digit
  pub fits : number * 10 + (digit - 48) < 10 ^ 28
  pub value : digits_value_after 10 (number * 10 + (digit - 48)) (drop (place + 1) digits) ≡ digits_value_after 10 number (drop place digits)
  pub others : list_all is_ascii_digit (drop (place + 1) digits) ≡ true

-- with one more digit there is ten times as much room
pub room_next : (start place : ℕ) → (start + 1) * 10 ^ (place + 1) ≡ 10 * ((start + 1) * 10 ^ place)
room_next start place = rw (power_next place) (grind arith)

-- the number after the next digit is read
pub grows : (start number place : ℕ) (digits : List ℕ) → place < length digits → (start + 1) * 10 ^ length digits ≤ 10 ^ 28 → list_all is_ascii_digit (drop place digits) ≡ true → number < (start + 1) * 10 ^ place → Grows start number (get_or digits place 0) place digits
grows start number place digits within room all small =
    let cut = drop_more digits place 0 within in
    let parts = both_true (is_ascii_digit (get_or digits place 0)) (list_all is_ascii_digit (drop (place + 1) digits)) (ap (list_all is_ascii_digit) (sym cut) ∙ all) in
    let range = digit_range _ parts.0 in
    let value : digit_value (get_or digits place 0) + 48 ≡ get_or digits place 0 = digit_value_digit (get_or digits place 0) range in
    let is : get_or digits place 0 - 48 ≡ digit_value (get_or digits place 0) = omega arith in
    let next = room_next start place in
    let power = pow-le-pow_right {n = 10} (omega arith) {i = place + 1} {j = length digits} (omega arith) in
    let far : (start + 1) * 10 ^ (place + 1) ≤ (start + 1) * 10 ^ length digits = mul-le-mul_left (start + 1) power in
    let sum : number * 10 + (get_or digits place 0 - 48) < (start + 1) * 10 ^ (place + 1) = omega (arith, next, small, range.0, range.1) in
    record { small = sum; low = range.0; fits = omega (arith, sum, far, room); value = rw (cut, is) refl; others = parts.1 }
