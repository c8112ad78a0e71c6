-- A weight's exact text is a number of JSON, and is UTF-8.
use Rattle.std.proofs.Common.{◌≡◌, ℕ, zero, suc, ◌/◌, ◌<◌, ◌^◌, true, false, List, [], ◌∷◌, ◌++◌, length, refl, ap, arith}
use Rattle.std.proofs.lemmas.Fmt.{IsAscii-decimal, IsAscii-from_digits, decimal_is_IsNumeral, decimal_digit, first_decimal}
use Rattle.std.proofs.lemmas.Str.{IsAscii-append, IsUtf8-from_ascii, digit_value_digit}
use Rattle.std.proofs.lemmas.Str.Ascii.{IsAscii-cons}
use Rattle.std.specs.Char.{digit_value}
use Rattle.std.specs.Prelude.{decimal, slice_index}
use Rattle.std.specs.Float.Numeral.{Parts}
use Rattle.std.specs.Str.{IsUtf8}
use Rattle.std.specs.Str.Parse.{AllDigits}
use Rattle.ryu.specs.Plain.{IsPlain}
use Rattle.json.specs.Print.{IsNumber}
use Rattle.json.proofs.Printed.Floats.{IsNumber-plain}
use Rattle.crush_units.specs.Weight.{digit}
use Rattle.crush_units.specs.ExactWeight.{exact_parts, exact_text}

-- each byte after the point is a digit
digit_is : (n : ℕ) → digit_value (digit n) < 10
digit_is n = let v = digit_value_digit (digit n) (omega arith, omega arith) in omega (arith, v)

-- the six digits after the point
abbrev six : ℕ → List ℕ
six h = digit (h / 100000) ∷ digit (h / 10000) ∷ digit (h / 1000) ∷ digit (h / 100) ∷ digit (h / 10) ∷ digit h ∷ []

six_digits : (h : ℕ) → AllDigits 10 (six h)
six_digits h = (digit_is (h / 100000), (digit_is (h / 10000), (digit_is (h / 1000), (digit_is (h / 100), (digit_is (h / 10), (digit_is h, tt))))))

-- the whole part doesn't begin with 0, unless it is 0
no_zero : (n : ℕ) → n < 2 ^ 64 → slice_index (decimal n) 0 ≡ 48 → length (decimal n) ≡ 1
no_zero zero small is = ap length (decimal_digit 0 (omega arith))
no_zero (suc n) small is = absurd (omega (arith, first_decimal (suc n) (omega arith) small, is))

-- the parts of the number: a whole part, a point and six digits
unfoldable parts : ℕ → ℕ → Parts
parts whole h = record {
  whole = decimal whole;
  point = true;
  fraction = six h;
  exponent_negative = false;
  exponent = [];
  len = length (decimal whole ++ 46 ∷ six h);
}

plain : (whole h : ℕ) → whole < 2 ^ 64 → IsPlain (parts whole h)
unfolding parts
plain whole h small =
    let digits = decimal_is_IsNumeral whole small in
    record {
      well_formed = record {
        whole_digits = digits.0.1;
        fraction_digits = six_digits h;
        exponent_digits = tt;
        no_point = λ e. absurd cc;
        no_exponent = λ e. refl;
        len_is = refl;
      };
      whole = digits.0.0;
      no_leading_zero = no_zero whole small;
      fraction = λ e. omega arith;
      marked = λ e. absurd cc;
    }

pub weight_is_number : (w : ℕ) → w < 2 ^ 32 → IsNumber (exact_text w)
unfolding parts
weight_is_number w small =
    let h = exact_parts w in
    IsNumber-plain (exact_text w) (false, parts (h / 1000000) h, refl, plain (h / 1000000) h (omega arith))

-- the digits, and the point before them, are ASCII
pub exact_text_utf8 : (w : ℕ) → w < 2 ^ 32 → IsUtf8 (exact_text w)
exact_text_utf8 w small =
    let h = exact_parts w in
    IsUtf8-from_ascii (exact_text w)
    (IsAscii-append (decimal (h / 1000000)) (46 ∷ six h) (IsAscii-decimal (h / 1000000) (omega arith))
    (IsAscii-cons 46 (six h) (omega arith) (IsAscii-from_digits (six h) (six_digits h))))
