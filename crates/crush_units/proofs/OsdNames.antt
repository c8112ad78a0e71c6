-- The names that Ceph gives to devices are names.
use Rattle.std.proofs.Common.{◌≡◌, ℕ, ◌<◌, ◌≤◌, ◌^◌, true, List, [], ◌∷◌, length, refl, arith}
use Rattle.std.proofs.lemmas.Bool.Decides.{nat_tests}
use Rattle.std.proofs.lemmas.Fmt.{decimal_is_IsNumeral, length-decimal-le}
use Rattle.std.proofs.lemmas.Str.Parse.{digit_from_value}
use Rattle.std.specs.Prelude.{decimal}
use Rattle.std.specs.Str.Parse.{AllDigits}
use Rattle.crush_units.specs.Name.{IsName, is_name_byte, are_name_bytes}
use Rattle.crush_units.specs.OsdName.{osd_name}

-- a digit is allowed in a name
digit_allowed : (d : ℕ) → 48 ≤ d → d ≤ 57 → is_name_byte d ≡ true
digit_allowed d low high = grind (arith, nat_tests)

-- digits are allowed in a name
digits_allowed : (ds : List ℕ) → AllDigits 10 ds → are_name_bytes ds ≡ true
digits_allowed [] h = refl
digits_allowed (d ∷ ds) h =
    let r = digit_from_value d h.0 in
    rw (digit_allowed d r.0 r.1, digits_allowed ds h.1) refl

-- the name of a device is a name
pub osd_name_is_name : (d : ℕ) → d < 2 ^ 31 → IsName (osd_name d)
osd_name_is_name d small =
    let is = decimal_is_IsNumeral d (omega arith) in
    let short : length (decimal d) ≤ 10 = length-decimal-le 10 d (omega arith) (omega arith) (omega arith) in
    record { some = omega arith; few = omega (arith, short); allowed = digits_allowed (decimal d) is.0.1 }
