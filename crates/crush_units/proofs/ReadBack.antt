-- The text that any weight is printed as is read as the same weight.
use Rattle.std.proofs.Common.{◌≡◌, ℕ, ◌/◌, ◌%◌, ◌<◌, ◌≤◌, ◌^◌, Bool, true, false, List, [], ◌∷◌, ◌++◌, length, take, drop, refl, sym, ap, subst, ◌∙◌, arith, eqb}
use Rattle.std.proofs.lemmas.Bool.Decides.{nat_tests}
use Rattle.std.proofs.lemmas.Bool.{ne_eqb}
use Rattle.std.proofs.lemmas.Str.{digit_value_digit}
use Rattle.std.proofs.Math.Dec.{leb}
use Rattle.std.proofs.lemmas.List.{take_at, drop_at}
use Rattle.std.proofs.lemmas.Fmt.{decimal_is_IsNumeral}
use Rattle.std.proofs.lemmas.Str.Parse.{digit_from_value}
use Rattle.std.specs.Prelude.{decimal, ◌&&◌, ◌||◌, ◌==◌, Ok, Err, cond}
use Rattle.std.specs.Char.{is_ascii_digit, digit_value}
use Rattle.std.specs.List.{list_all, position_or_len}
use Rattle.std.specs.Str.Parse.{AllDigits, digits_value, digits_value_after}
use Rattle.crush_units.specs.Weight.{parts_of, units_of, digit, is_point, are_digits, weight_of_text, weight_text, weight_of_units, whole_of, tail_of}
use Rattle.crush_units.specs.declared.weight.WeightFault.TheVariants.{Syntax, TooLarge}
use Rattle.crush_units.proofs.Parts.{parts_read_back, six_parts, whole_part_short}

-- a digit isn't a point
digit_byte : (d : ℕ) → 48 ≤ d → d ≤ 57 → (is_ascii_digit d ≡ true) × (is_point d ≡ false)
digit_byte d lo hi = (grind (arith, nat_tests), grind (arith, nat_tests))

-- digits pass the test for digits
pub all_digits : (ds : List ℕ) → AllDigits 10 ds → list_all is_ascii_digit ds ≡ true
all_digits [] h = refl
all_digits (d ∷ ds) h = let r = digit_from_value d h.0 in rw ((digit_byte d r.0 r.1).0, all_digits ds h.1) refl

-- the first point is the one after the digits
to_point : (ds rest : List ℕ) → AllDigits 10 ds → position_or_len is_point (ds ++ 46 ∷ rest) ≡ length ds
to_point [] rest h = refl
to_point (d ∷ ds) rest h = let r = digit_from_value d h.0 in rw ((digit_byte d r.0 r.1).1, to_point ds rest h.1) (omega arith)

-- the value of the last digit of a number
pub digit_is : (n : ℕ) → digit_value (digit n) ≡ n % 10
digit_is n = let v = digit_value_digit (digit n) (omega arith, omega arith) in omega (arith, v)

-- the last digit of a number passes the test for digits
pub digit_passes : (n : ℕ) → is_ascii_digit (digit n) ≡ true
digit_passes n = (digit_byte (digit n) (omega arith) (omega arith)).0

-- the digits of the whole part pass the test for digits
pub passes : (most : ℕ) (ds : List ℕ) → 0 < length ds → length ds ≤ most → list_all is_ascii_digit ds ≡ true → are_digits most ds ≡ true
passes most ds some few all =
    let a : eqb (length ds) 0 ≡ false = ne_eqb _ _ (omega arith) in
    let b : leb (length ds) most ≡ true = grind (arith, nat_tests) in
    rw (a, b, all) refl

-- five digits pass the test for the digits after the point
five : (a b c d e : ℕ) → is_ascii_digit a ≡ true → is_ascii_digit b ≡ true → is_ascii_digit c ≡ true → is_ascii_digit d ≡ true → is_ascii_digit e ≡ true → are_digits 18 (a ∷ b ∷ c ∷ d ∷ e ∷ []) ≡ true
five a b c d e ha hb hc hd he = rw (ha, hb, hc, hd, he) refl

-- digits, a point and more digits
module _ (ds rest : List ℕ) (all : AllDigits 10 ds) where
  -- the place of the point
  place : position_or_len is_point (ds ++ 46 ∷ rest) ≡ length ds
  place = to_point ds rest all

  -- the bytes before the point
  front : whole_of (ds ++ 46 ∷ rest) ≡ ds
  front = ap (λ (n : ℕ). take n (ds ++ 46 ∷ rest)) place ∙ take_at ds _ (length ds) refl

  -- the point and the bytes after it
  behind : tail_of (ds ++ 46 ∷ rest) ≡ 46 ∷ rest
  behind = ap (λ (n : ℕ). drop n (ds ++ 46 ∷ rest)) place ∙ drop_at ds _ (length ds) refl

  -- what is true of the two parts is true of the parts of the text
  pub of_parts : (P : List ℕ → List ℕ → Type 0) → P ds (46 ∷ rest) → P (whole_of (ds ++ 46 ∷ rest)) (tail_of (ds ++ 46 ∷ rest))
  of_parts P plain = subst (λ (w : List ℕ). P w (tail_of (ds ++ 46 ∷ rest))) (sym front) (subst (P ds) (sym behind) plain)

  -- the weight that the text is read as
  pub weight_is : (n u : ℕ) → are_digits 10 ds ≡ true → are_digits 18 rest ≡ true → digits_value_after 10 (digits_value 10 ds) rest ≡ n → units_of n (length rest) ≡ u → u ≤ 4294967295 → weight_of_text (ds ++ 46 ∷ rest) ≡ Ok u
  weight_is n u whole part value units fits =
      let P : List ℕ → List ℕ → Type 0 = λ w t. cond (are_digits 10 w && ((length t == 0) || are_digits 18 (drop 1 t))) (weight_of_units (units_of (digits_value_after 10 (digits_value 10 w) (drop 1 t)) (length (drop 1 t)))) (Err Syntax) ≡ Ok u in
      let small : leb u 4294967295 ≡ true = grind (arith, nat_tests) in
      let some : (length (46 ∷ rest) == 0) ≡ false = ne_eqb _ _ (omega arith) in
      let plain : P ds (46 ∷ rest) =
      ap (λ (v : Bool). cond (are_digits 10 ds && (v || are_digits 18 rest)) (weight_of_units (units_of (digits_value_after 10 (digits_value 10 ds) rest) (length rest))) (Err Syntax)) some
      ∙ ap (λ (v : Bool). cond v (weight_of_units (units_of (digits_value_after 10 (digits_value 10 ds) rest) (length rest))) (Err Syntax)) (ap (λ (v : Bool). v && are_digits 18 rest) whole ∙ part)
      ∙ ap (λ (v : ℕ). weight_of_units (units_of v (length rest))) value ∙ ap weight_of_units units ∙ ap (λ (v : Bool). cond v (Ok u) (Err TooLarge)) small in
      of_parts P plain

-- THE LAW
pub read_again : (w : ℕ) → w < 2 ^ 32 → weight_of_text (weight_text w) ≡ Ok w
read_again w h =
    let d = decimal_is_IsNumeral (parts_of w / 100000) (omega arith) in
    let few : length (decimal (parts_of w / 100000)) ≤ 5 = whole_part_short w h in
    weight_is (decimal (parts_of w / 100000)) (digit (parts_of w / 10000) ∷ digit (parts_of w / 1000) ∷ digit (parts_of w / 100) ∷ digit (parts_of w / 10) ∷ digit (parts_of w) ∷ []) d.0.1 (parts_of w) w
    (passes 10 (decimal (parts_of w / 100000)) d.0.0 (omega arith) (all_digits _ d.0.1))
    (five (digit (parts_of w / 10000)) (digit (parts_of w / 1000)) (digit (parts_of w / 100)) (digit (parts_of w / 10)) (digit (parts_of w)) (digit_passes (parts_of w / 10000)) (digit_passes (parts_of w / 1000)) (digit_passes (parts_of w / 100)) (digit_passes (parts_of w / 10)) (digit_passes (parts_of w)))
    (rw (d.1, digit_is (parts_of w / 10000), digit_is (parts_of w / 1000), digit_is (parts_of w / 100), digit_is (parts_of w / 10), digit_is (parts_of w)) (six_parts (parts_of w)))
    (parts_read_back w) (omega arith)
