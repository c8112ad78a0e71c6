-- The hundred-thousandths of a weight.
use Rattle.std.proofs.Common.{◌≡◌, ℕ, [], ◌∷◌, ◌+◌, ◌*◌, ◌/◌, ◌%◌, ◌<◌, ◌≤◌, ◌^◌, length, arith}
use Rattle.std.proofs.lemmas.Fmt.{length-decimal-le}
use Rattle.std.specs.Prelude.{decimal}
use Rattle.std.proofs.lemmas.Str.{IsUtf8-from_ascii, IsAscii-append}
use Rattle.std.proofs.lemmas.Str.Ascii.{IsAscii-nil, IsAscii-cons}
use Rattle.std.proofs.lemmas.Fmt.{IsAscii-decimal}
use Rattle.std.specs.Str.{IsUtf8, IsAscii}
use Rattle.crush_units.specs.Weight.{weight_text, digit, parts_of}

-- the hundred-thousandths of a weight are read as the weight's units
pub parts_read_back : (w : ℕ) → (parts_of w * 131072 + 100000) / 200000 ≡ w
parts_read_back w = omega arith

-- a number is composed of its whole part and five digits
pub six_parts : (h : ℕ) → ((((h / 100000 * 10 + h / 10000 % 10) * 10 + h / 1000 % 10) * 10 + h / 100 % 10) * 10 + h / 10 % 10) * 10 + h % 10 ≡ h
six_parts h = omega arith

-- the whole part of a weight has at most five digits
pub whole_part_short : (w : ℕ) → w < 2 ^ 32 → length (decimal (parts_of w / 100000)) ≤ 5
whole_part_short w h = length-decimal-le 5 (parts_of w / 100000) (omega arith) (omega arith) (omega arith)

-- a digit is ASCII
digit_ascii : (n : ℕ) → digit n < 128
digit_ascii n = omega arith

-- a point and five digits are ASCII
fraction_ascii : (h : ℕ) → IsAscii (46 ∷ digit (h / 10000) ∷ digit (h / 1000) ∷ digit (h / 100) ∷ digit (h / 10) ∷ digit h ∷ [])
fraction_ascii h =
    let one = IsAscii-cons (digit h) [] (digit_ascii h) IsAscii-nil in
    let two = IsAscii-cons (digit (h / 10)) (digit h ∷ []) (digit_ascii (h / 10)) one in
    let three = IsAscii-cons (digit (h / 100)) (digit (h / 10) ∷ digit h ∷ []) (digit_ascii (h / 100)) two in
    let four = IsAscii-cons (digit (h / 1000)) (digit (h / 100) ∷ digit (h / 10) ∷ digit h ∷ []) (digit_ascii (h / 1000)) three in
    let five = IsAscii-cons (digit (h / 10000)) (digit (h / 1000) ∷ digit (h / 100) ∷ digit (h / 10) ∷ digit h ∷ []) (digit_ascii (h / 10000)) four in
    IsAscii-cons 46 (digit (h / 10000) ∷ digit (h / 1000) ∷ digit (h / 100) ∷ digit (h / 10) ∷ digit h ∷ []) (omega arith) five

-- the text that a weight is printed as is text in UTF-8
pub weight_text_utf8 : (w : ℕ) → w < 2 ^ 32 → IsUtf8 (weight_text w)
weight_text_utf8 w fits =
    let h = parts_of w in
    IsUtf8-from_ascii (weight_text w)
    (IsAscii-append (decimal (h / 100000)) (46 ∷ digit (h / 10000) ∷ digit (h / 1000) ∷ digit (h / 100) ∷ digit (h / 10) ∷ digit h ∷ [])
    (IsAscii-decimal (h / 100000) (omega arith)) (fraction_ascii h))
