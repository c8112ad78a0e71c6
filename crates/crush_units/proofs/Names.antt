-- Names, as facts and as tests that can be computed.
use Rattle.std.proofs.Common.{◌≡◌, ℕ, ◌<◌, Bool, true, false, List, [], ◌∷◌, length, refl, arith}
use Rattle.std.proofs.lemmas.Bool.Decides.{nat_tests}
use Rattle.std.proofs.lemmas.Str.{IsUtf8-from_ascii}
use Rattle.std.proofs.lemmas.Str.Ascii.{IsAscii-nil, IsAscii-cons}
use Rattle.std.specs.Prelude.{◌&&◌, nat_lt, nat_le}
use Rattle.std.specs.Str.{IsUtf8, IsAscii}
use Rattle.crush_units.specs.Name.{IsName, is_name, is_name_byte, are_name_bytes}

-- if `a && b` is true, both are true
pub both_true : (a b : Bool) → (a && b) ≡ true → (a ≡ true) × (b ≡ true)
both_true true b e = (refl, e)
both_true false b e = absurd cc

-- a byte of a name is ASCII
pub is_name_byte_ascii : (b : ℕ) → is_name_byte b ≡ true → b < 128
is_name_byte_ascii b e = grind (arith, nat_tests)

-- a name passes the test
pub is_name_true : (bytes : List ℕ) → IsName bytes → is_name bytes ≡ true
is_name_true bytes h =
    let some : nat_lt 0 (length bytes) ≡ true = grind (arith, nat_tests, h.some) in
    let few : nat_le (length bytes) 255 ≡ true = grind (arith, nat_tests, h.few) in
    rw (some, few, h.allowed) refl

-- bytes that pass the test are a name
pub is_name_holds : (bytes : List ℕ) → is_name bytes ≡ true → IsName bytes
is_name_holds bytes e =
    let outer = both_true (nat_lt 0 (length bytes) && nat_le (length bytes) 255) (are_name_bytes bytes) e in
    let inner = both_true (nat_lt 0 (length bytes)) (nat_le (length bytes) 255) outer.0 in
    record { some = grind (arith, nat_tests, inner.0); few = grind (arith, nat_tests, inner.1); allowed = outer.1 }

-- the bytes that a name may have are ASCII
pub are_name_bytes_ascii : (bytes : List ℕ) → are_name_bytes bytes ≡ true → IsAscii bytes
are_name_bytes_ascii [] h = IsAscii-nil
are_name_bytes_ascii (b ∷ bytes) h =
    let parts = both_true (is_name_byte b) (are_name_bytes bytes) h in
    IsAscii-cons b bytes (is_name_byte_ascii b parts.0) (are_name_bytes_ascii bytes parts.1)

-- the bytes that a name may have are text in UTF-8
pub are_name_bytes_utf8 : (bytes : List ℕ) → are_name_bytes bytes ≡ true → IsUtf8 bytes
are_name_bytes_utf8 bytes h = IsUtf8-from_ascii bytes (are_name_bytes_ascii bytes h)
