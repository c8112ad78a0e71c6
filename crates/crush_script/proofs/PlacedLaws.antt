-- A printed edit that places a device by the name `osd.N` is read back as the same edit.
use Rattle.std.proofs.Common.{◌≡◌, ℕ, zero, suc, ◌<◌, ◌^◌, Bool, true, false, eqb, length, get_or, Some, refl, ap, arith}
use Rattle.std.proofs.lemmas.Bool.{ne_eqb}
use Rattle.std.proofs.lemmas.Bool.Decides.{nat_tests}
use Rattle.std.proofs.lemmas.Fmt.{decimal_digit, decimal_is_IsNumeral, first_decimal, length-decimal-le}
use Rattle.std.specs.Prelude.{◌||◌, decimal, nat_le}
use Rattle.crush_units.specs.OsdName.{osd_name}
use Rattle.crush_units.specs.Weight.{are_digits}
use Rattle.crush_units.specs.declared.limits.TheConstants.{LAST_DEVICE_ID}
use Rattle.crush_units.proofs.OsdNames.{osd_name_is_name}
use Rattle.crush_units.proofs.ReadBack.{all_digits, passes}
use Rattle.crush_history.specs.Said.{device_named, is_plain}
use Rattle.crush_script.specs.Printed.{PlacedIsRead}
use Rattle.crush_script.proofs.PrintedLaws.{printed_is_read}

-- the digits of an id are 1 to 10
id_digits : (d : ℕ) → d < 2 ^ 31 → are_digits 10 (decimal d) ≡ true
id_digits d small =
    let is = decimal_is_IsNumeral d (omega arith) in
    passes 10 (decimal d) is.0.0 (length-decimal-le 10 d (omega arith) (omega arith) (omega arith)) (all_digits (decimal d) is.0.1)

or_true : (b : Bool) → (b || true) ≡ true
or_true true = refl
or_true false = refl

-- the digits of an id have no superfluous zeros
id_plain : (d : ℕ) → d < 2 ^ 31 → is_plain (decimal d) ≡ true
id_plain zero small = ap is_plain (decimal_digit 0 (omega arith))
id_plain (suc n) small =
    let first = first_decimal (suc n) (omega arith) (omega arith) in
    let other : eqb (get_or (decimal (suc n)) 0 0) 48 ≡ false = ne_eqb _ _ (omega arith) in
    rw (id_digits (suc n) small, other) (or_true (eqb (length (decimal (suc n))) 1))

-- the name of a device has its id
name_has_id : (d : ℕ) → d < 2 ^ 31 → device_named (osd_name d) ≡ Some d
name_has_id d small =
    let in_range : nat_le d LAST_DEVICE_ID ≡ true = grind (arith, nat_tests) in
    rw (id_plain d small, (decimal_is_IsNumeral d (omega arith)).1, in_range) refl

-- THE LAW
pub placed_is_read : PlacedIsRead
placed_is_read how d w at small fits is = printed_is_read _ (record { name = osd_name_is_name d small; device = name_has_id d small; weight = fits; at = is })
