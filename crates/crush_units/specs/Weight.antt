-- Which weight is read from a text, and which text is printed for a weight. Weights are in units: a weight of 1.0 has 65536 units.
use Rattle.std.specs.Prelude.{◌≡◌, ℕ, ◌+◌, ◌*◌, ◌/◌, ◌%◌, ◌^◌, ◌<◌, Bool, not, ◌&&◌, ◌||◌, List, ◌∷◌, [], ◌++◌, length, take, drop, Result, Ok, Err, nat_le, ◌==◌, decimal, if◌then◌else◌}
use Rattle.std.specs.List.{position_or_len, list_all}
use Rattle.std.specs.Char.{is_ascii_digit}
use Rattle.std.specs.Str.Parse.{digits_value, digits_value_after}
use Rattle.crush_units.specs.declared.weight.WeightFault.{WeightFault}
use Rattle.crush_units.specs.declared.weight.WeightFault.TheVariants.{Syntax, TooLarge}
use Rattle.crush_units.specs.declared.limits.TheConstants.{HEAVIEST_BUCKET}

-- a decimal number, rounded to the nearest unit; half a unit is rounded up. The first argument is the number that all its digits form without the point. The second argument is how many of these digits are after the point
abbrev pub units_of : ℕ → ℕ → ℕ
units_of number places = (number * 131072 + 10 ^ places) / (2 * 10 ^ places)

-- the weight in hundred-thousandths of 1.0, rounded to the nearest whole number; a half is rounded up
abbrev pub parts_of : ℕ → ℕ
parts_of units = (units * 200000 + 65536) / 131072

-- whether a byte is `.`
abbrev pub is_point : ℕ → Bool
is_point byte = byte == 46

-- the bytes before the first point, or all bytes if there is no point
abbrev pub whole_of : List ℕ → List ℕ
whole_of text = take (position_or_len is_point text) text

-- the first point and the bytes after it, or nothing if there is no point
abbrev pub tail_of : List ℕ → List ℕ
tail_of text = drop (position_or_len is_point text) text

-- the bytes after the first point, or nothing if there is no point
abbrev pub fraction_of : List ℕ → List ℕ
fraction_of text = drop 1 (tail_of text)

-- whether a text consists of 1 to `most` digits
abbrev pub are_digits : ℕ → List ℕ → Bool
are_digits most text =
    not (length text == 0) && nat_le (length text) most && list_all is_ascii_digit text

-- whether a text has the form of a weight: 1 to 10 digits, and then nothing or a point and 1 to 18 digits
abbrev pub is_weight_text : List ℕ → Bool
is_weight_text text =
    are_digits 10 (whole_of text)
    && (length (tail_of text) == 0 || are_digits 18 (fraction_of text))

-- all digits of a weight's text as one number, without the point
abbrev pub number_in : List ℕ → ℕ
number_in text = digits_value_after 10 (digits_value 10 (whole_of text)) (fraction_of text)

-- the weight with this number of units, or TooLarge if the number is above 4294967295
abbrev pub weight_of_units : ℕ → Result ℕ WeightFault
weight_of_units units = if nat_le units HEAVIEST_BUCKET then Ok units else Err TooLarge

-- the weight in units that is read from a text, or a fault: Syntax if the text doesn't have the form of a weight, and TooLarge if the rounded number of units is above 4294967295
abbrev pub weight_of_text : List ℕ → Result ℕ WeightFault
weight_of_text text =
    if is_weight_text text
    then weight_of_units (units_of (number_in text) (length (fraction_of text)))
    else Err Syntax

-- the last decimal digit of a number, as an ASCII byte
abbrev pub digit : ℕ → ℕ
digit n = 48 + n % 10

-- the text that is printed for a weight: the whole part, a point and five digits
abbrev pub weight_text : ℕ → List ℕ
weight_text units =
    decimal (parts_of units / 100000) ++ 46 ∷ digit (parts_of units / 10000)
    ∷ digit (parts_of units / 1000) ∷ digit (parts_of units / 100) ∷ digit (parts_of units / 10)
    ∷ digit (parts_of units) ∷ []

-- the printed text of any weight is read as the same weight
abbrev pub PrintedIsReadBack : Type 0
PrintedIsReadBack = (units : ℕ) → units < 2 ^ 32 → weight_of_text (weight_text units) ≡ Ok units

-- the number of a fault
abbrev pub weight_fault_number : WeightFault → ℕ
weight_fault_number Syntax = 1
weight_fault_number TooLarge = 2
