-- A printed number of changes is read back as the same number.
use Rattle.std.proofs.Common.{◌≡◌, ℕ, ◌<◌, ◌≤◌, ◌&&◌, ◌==◌, Bool, true, false, cond, List, [], ◌∷◌, Option, Some, None, Ok, length, nat_le, refl, ap, ◌∙◌, arith, rules, tests}
use Rattle.std.specs.Prelude.{decimal, not}
use Rattle.std.specs.List.{list_all}
use Rattle.std.specs.Char.{is_ascii_digit}
use Rattle.std.specs.Str.Parse.{AllDigits, digits_value}
use Rattle.std.proofs.lemmas.Bool.Decides.{nat_tests}
use Rattle.std.proofs.lemmas.Fmt.{decimal_is_IsNumeral}
use Rattle.std.proofs.lemmas.Str.Parse.{digit_from_value}
use Rattle.crush_units.specs.declared.limits.TheConstants.{MOST_ENTRIES}
use Rattle.crush_script.specs.Words.{count_of}
use Rattle.crush_script.specs.Command.{read_count, count_at}

digit_is : (d : ℕ) → 48 ≤ d → d ≤ 57 → is_ascii_digit d ≡ true
digit_is d low high = grind (arith, nat_tests)

digits_are : (ds : List ℕ) → AllDigits 10 ds → list_all is_ascii_digit ds ≡ true
digits_are [] all = refl
digits_are (d ∷ ds) all =
    let r = digit_from_value d all.0 in
    let first = digit_is d r.0 r.1 in
    rw (first, digits_are ds all.1) refl

counted : (b c d : Bool) (v n : ℕ) → b ≡ false → c ≡ true → d ≡ true → v ≡ n → ◌≡◌ {A = Option ℕ} (cond (not b && c && d) (Some v) None) (Some n)
counted b c d v n some digits few value = rw (some, digits, few, value) refl

count_of-printed : (n : ℕ) → n ≤ MOST_ENTRIES → count_of (decimal n) ≡ Some n
count_of-printed n few =
    let is = decimal_is_IsNumeral n (omega arith) in
    let long : 0 < length (decimal n) = is.0.0 in
    let some : (length (decimal n) == 0) ≡ false = search (rules, tests) in
    let small : nat_le n MOST_ENTRIES ≡ true = search (rules, tests) in
    counted (length (decimal n) == 0) (list_all is_ascii_digit (decimal n)) (nat_le (digits_value 10 (decimal n)) MOST_ENTRIES) (digits_value 10 (decimal n)) n
    some (digits_are (decimal n) is.0.1) (ap (λ (v : ℕ). nat_le v MOST_ENTRIES) is.1 ∙ small) is.1

pub count_read : (n : ℕ) → n ≤ MOST_ENTRIES → count_at 2 (decimal n ∷ []) ≡ Ok (record { value = n; rest = [] })
unfolding count_at
count_read n few = ap (λ (o : Option ℕ). read_count 2 o []) (count_of-printed n few)
