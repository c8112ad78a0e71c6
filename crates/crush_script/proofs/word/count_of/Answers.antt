use Rattle.std.proofs.Common.{◌≡◌, ℕ, ◌+◌, ◌-◌, ◌*◌, ◌<◌, ◌≤◌, ◌&&◌, ◌==◌, Bool, true, false, cond, List, [], ◌∷◌, Option, Some, None, length, drop, get_or, nat_le, refl, sym, ap, ◌∙◌, arith, rules, tests}
use Rattle.std.specs.Prelude.{not}
use Rattle.std.specs.List.{list_all}
use Rattle.std.specs.Char.{digit_value, is_ascii_digit}
use Rattle.std.specs.Str.Parse.{digits_value, digits_value_after}
use Rattle.std.proofs.lemmas.List.{drop_more}
use Rattle.std.proofs.lemmas.Str.{digit_value_digit}
use Rattle.crush_units.proofs.Weights.{digit_range}
use Rattle.crush_units.specs.declared.limits.TheConstants.{MOST_ENTRIES}
use Rattle.crush_script.specs.Words.{count_of}
use Rattle.crush_script.proofs.word.count_of.Goals as goal

-- more digits don't make a number smaller
grown : (n : ℕ) (cs : List ℕ) → n ≤ digits_value_after 10 n cs
grown n [] = omega arith
grown n (c ∷ cs) = omega (arith, grown (n * 10 + digit_value c) cs)

uncounted : (a b c : Bool) (v : ℕ) → c ≡ false → ◌≡◌ {A = Option ℕ} None (cond (a && b && c) (Some v) None)
uncounted true true c v many = rw many refl
uncounted true false c v many = refl
uncounted false b c v many = refl

-- if the number is too large after some of its digits, it is also too large after all of them
too_many : (digits : List ℕ) (place number : ℕ) → place < length digits → digits_value_after 10 number (drop place digits) ≡ digits_value_after 10 0 digits → is_ascii_digit (get_or digits place 0) ≡ true
    → MOST_ENTRIES < number * 10 + (get_or digits place 0 - 48) → None ≡ count_of digits
too_many digits place number within so_far digit large =
    let d : ℕ = get_or digits place 0 in
    let cut = drop_more digits place 0 within in
    let range = digit_range d digit in
    let value : digit_value d + 48 ≡ d = digit_value_digit d range in
    let all : digits_value_after 10 (number * 10 + digit_value d) (drop (place + 1) digits) ≡ digits_value 10 digits = ap (digits_value_after 10 number) (sym cut) ∙ so_far in
    let beyond : MOST_ENTRIES < digits_value 10 digits = omega (arith, all, grown (number * 10 + digit_value d) (drop (place + 1) digits)) in
    let many : nat_le (digits_value 10 digits) MOST_ENTRIES ≡ false = search (rules, tests) in
    uncounted (not (length digits == 0)) (list_all is_ascii_digit digits) (nat_le (digits_value 10 digits) MOST_ENTRIES) (digits_value 10 digits) many

pub returns-then-many : goal.returns-then-many
returns-then-many c =
    let digit : is_ascii_digit (get_or c.args.digits.now c.loop-digit.digit-index 0) ≡ true = search rules in
    too_many c.args.digits.now c.loop-digit.digit-index c.loop-digit.value c.loop-digit-test.true c.loop-digit.invariant.value digit (search rules)
