-- The words of printed lines, one after the other.
use Rattle.std.proofs.Common.{◌≡◌, ℕ, suc, ◌/◌, ◌<◌, ◌≤◌, ◌^◌, true, false, List, [], ◌∷◌, ◌++◌, refl, sym, subst, append_assoc, arith, length-append}
use Rattle.std.proofs.lemmas.Bool.{and_parts}
use Rattle.std.proofs.lemmas.Bool.Decides.{nat_tests}
use Rattle.std.proofs.lemmas.Fmt.{decimal_is_IsNumeral, length-decimal-le}
use Rattle.std.proofs.lemmas.Str.Parse.{digit_from_value}
use Rattle.std.proofs.lemmas.List.Elements.{All-head, All-tail}
use Rattle.std.specs.Prelude.{All, flat_map, decimal, ℤ, pos, negsuc, not, eqb}
use Rattle.std.specs.Fmt.{signed_decimal}
use Rattle.std.specs.List.{list_all}
use Rattle.std.specs.Str.Parse.{AllDigits}
use Rattle.crush_units.specs.Name.{is_name_byte, are_name_bytes, is_name, IsName}
use Rattle.crush_units.specs.Weight.{parts_of, digit, weight_text}
use Rattle.crush_units.specs.ExactWeight.{exact_parts, exact_text}
use Rattle.crush_units.specs.Alg.{alg_text}
use Rattle.crush_units.specs.declared.alg.Alg.{Alg}
use Rattle.crush_units.specs.declared.alg.Alg.TheVariants.{Straw, Straw2, List as Linked}
use Rattle.crush_units.proofs.Names.{is_name_holds}
use Rattle.crush_units.proofs.Parts.{whole_part_short}
use Rattle.crush_units.proofs.ExactWeights.{exact_part_short}
use Rattle.crush_units.specs.Words.{is_blank, is_brace}
use Rattle.crush_print.specs.declared.weight_form.WeightForm.{WeightForm}
use Rattle.crush_print.specs.declared.weight_form.WeightForm.TheVariants.{Rounded, Exact}
use Rattle.crush_print.specs.Lines.{weight_in}
use Rattle.crush_units.proofs.Printed.{Holds, holds_blank, holds_brace, holds_word, holds_comment}

-- a piece of text has these words, whatever follows it
pub record Spells (text : List ℕ) (ws : List (List ℕ)) : Type 0 where
  pub before : (rest : List ℕ) (more : List (List ℕ)) → Holds rest more → Holds (text ++ rest) (ws ++ more)

pub spells_nothing : Spells [] []
spells_nothing = record { before = λ rest more h. h }

-- two pieces of text, one after the other
pub spells_both : (a b : List ℕ) (x y : List (List ℕ)) → Spells a x → Spells b y → Spells (a ++ b) (x ++ y)
spells_both a b x y f g = record {
  before = λ rest more h.
      subst (λ (ws : List (List ℕ)). Holds ((a ++ b) ++ rest) ws) (sym (append_assoc x y more))
      (subst (λ (l : List ℕ). Holds l (x ++ (y ++ more))) (sym (append_assoc a b rest)) (f.before (b ++ rest) (y ++ more) (g.before rest more h)));
}

-- a word, a blank after it, and the text that follows
pub spells_word : (w : List ℕ) (s : ℕ) (b : List ℕ) (y : List (List ℕ)) → IsName w → is_blank s ≡ true → Spells b y → Spells (w ++ s ∷ b) (w ∷ y)
spells_word w s b y n k g = record {
  before = λ rest more h. subst (λ (l : List ℕ). Holds l (w ∷ (y ++ more))) (sym (append_assoc w (s ∷ b) rest)) (holds_word w s (b ++ rest) (y ++ more) n k (g.before rest more h));
}

-- a blank before a text
pub spells_blank : (s : ℕ) (b : List ℕ) (y : List (List ℕ)) → is_blank s ≡ true → eqb s 35 ≡ false → Spells b y → Spells (s ∷ b) y
spells_blank s b y k e g = record { before = λ rest more h. holds_blank s (b ++ rest) (y ++ more) k e (g.before rest more h) }

-- a brace before a text
pub spells_brace : (s : ℕ) (b : List ℕ) (y : List (List ℕ)) → is_blank s ≡ false → eqb s 35 ≡ false → is_brace s ≡ true → Spells b y → Spells (s ∷ b) ((s ∷ []) ∷ y)
spells_brace s b y k e o g = record { before = λ rest more h. holds_brace s (b ++ rest) (y ++ more) k e o (g.before rest more h) }

-- a comment with its line feed before a text
pub spells_comment : (c : List ℕ) (b : List ℕ) (y : List (List ℕ)) → list_all (λ x. not (eqb x 10)) c ≡ true → Spells b y → Spells (35 ∷ (c ++ 10 ∷ b)) y
spells_comment c b y k g = record {
  before = λ rest more h. subst (λ (l : List ℕ). Holds (35 ∷ l) (y ++ more)) (sym (append_assoc c (10 ∷ b) rest)) (holds_comment c (b ++ rest) (y ++ more) k (g.before rest more h));
}

-- several lines, one after the other
pub spells_all : {X : Type 0} (f : X → List ℕ) (g : X → List (List ℕ)) (xs : List X) → All (λ x. Spells (f x) (g x)) xs → Spells (flat_map f xs) (flat_map g xs)
spells_all f g [] h = spells_nothing
spells_all f g (x ∷ xs) h = spells_both (f x) (flat_map f xs) (g x) (flat_map g xs) (All-head (λ y. Spells (f y) (g y)) x xs h) (spells_all f g xs (All-tail (λ y. Spells (f y) (g y)) x xs h))

-- if each line has its words, then all lines together have all words
pub spells_each : {X : Type 0} (f : X → List ℕ) (g : X → List (List ℕ)) (xs : List X) → ((x : X) → Spells (f x) (g x)) → Spells (flat_map f xs) (flat_map g xs)
spells_each f g [] h = spells_nothing
spells_each f g (x ∷ xs) h = spells_both (f x) (flat_map f xs) (g x) (flat_map g xs) (h x) (spells_each f g xs h)

-- WORDS that are printed are names: a fixed word
pub fixed : (w : List ℕ) → is_name w ≡ true → IsName w
fixed w h = is_name_holds w h

-- a digit is a byte that a name may have
digit_byte : (b : ℕ) → 48 ≤ b → b ≤ 57 → is_name_byte b ≡ true
digit_byte b lo hi = grind (arith, nat_tests)

all_digits : (ds : List ℕ) → AllDigits 10 ds → are_name_bytes ds ≡ true
all_digits [] h = refl
all_digits (d ∷ ds) h = let r = digit_from_value d h.0 in rw (digit_byte d r.0 r.1, all_digits ds h.1) refl

-- a number
pub number_name : (n : ℕ) → n < 10 ^ 10 → IsName (decimal n)
number_name n h =
    let d = decimal_is_IsNumeral n (omega arith) in
    record { some = d.0.0; few = omega (arith, length-decimal-le 10 n (omega arith) h (omega arith)); allowed = all_digits (decimal n) d.0.1 }

-- a negative number
pub negative_name : (n : ℕ) → n < 10 ^ 10 → IsName (45 ∷ decimal n)
negative_name n h =
    let d = decimal_is_IsNumeral n (omega arith) in
    record { some = omega arith; few = omega (arith, length-decimal-le 10 n (omega arith) h (omega arith)); allowed = all_digits (decimal n) d.0.1 }

-- a number with a sign
pub signed_name : (z : ℤ) → ((n : ℕ) → (z ≡ pos n → n < 10 ^ 9)) → ((n : ℕ) → (z ≡ negsuc n → n < 10 ^ 9)) → IsName (signed_decimal z)
signed_name (pos n) p q = number_name n (omega (arith, p n refl))
signed_name (negsuc n) p q = negative_name (suc n) (omega (arith, q n refl))

-- a weight
all_append : (a b : List ℕ) → are_name_bytes a ≡ true → are_name_bytes b ≡ true → are_name_bytes (a ++ b) ≡ true
all_append [] b ha hb = hb
all_append (x ∷ a) b ha hb = let p = and_parts (is_name_byte x) (are_name_bytes a) ha in rw (p.0, all_append a b p.1 hb) refl

last_digit : (n : ℕ) → is_name_byte (digit n) ≡ true
last_digit n = digit_byte (digit n) (omega arith) (omega arith)

rounded_name : (w : ℕ) → w < 2 ^ 32 → IsName (weight_text w)
rounded_name w h =
    let d = decimal_is_IsNumeral (parts_of w / 100000) (omega arith) in
    let few = whole_part_short w h in
    let five : are_name_bytes (46 ∷ digit (parts_of w / 10000) ∷ digit (parts_of w / 1000) ∷ digit (parts_of w / 100) ∷ digit (parts_of w / 10) ∷ digit (parts_of w) ∷ []) ≡ true =
    rw (last_digit (parts_of w / 10000), last_digit (parts_of w / 1000), last_digit (parts_of w / 100), last_digit (parts_of w / 10), last_digit (parts_of w)) refl in
    record {
      some = omega (arith, length-append (decimal (parts_of w / 100000)) (46 ∷ digit (parts_of w / 10000) ∷ digit (parts_of w / 1000) ∷ digit (parts_of w / 100) ∷ digit (parts_of w / 10) ∷ digit (parts_of w) ∷ []));
      few = omega (arith, few, length-append (decimal (parts_of w / 100000)) (46 ∷ digit (parts_of w / 10000) ∷ digit (parts_of w / 1000) ∷ digit (parts_of w / 100) ∷ digit (parts_of w / 10) ∷ digit (parts_of w) ∷ []));
      allowed = all_append (decimal (parts_of w / 100000)) _ (all_digits (decimal (parts_of w / 100000)) d.0.1) five;
    }

-- the last six digits of a number, after a point
abbrev six : ℕ → List ℕ
six n = 46 ∷ digit (n / 100000) ∷ digit (n / 10000) ∷ digit (n / 1000) ∷ digit (n / 100) ∷ digit (n / 10) ∷ digit n ∷ []

exact_name : (w : ℕ) → w < 2 ^ 32 → IsName (exact_text w)
exact_name w h =
    let n = exact_parts w in
    let d = decimal_is_IsNumeral (n / 1000000) (omega arith) in
    let few = exact_part_short w h in
    let digits_allowed : are_name_bytes (six n) ≡ true =
    rw (last_digit (n / 100000), last_digit (n / 10000), last_digit (n / 1000), last_digit (n / 100), last_digit (n / 10), last_digit n) refl in
    record {
      some = omega (arith, length-append (decimal (n / 1000000)) (six n));
      few = omega (arith, few, length-append (decimal (n / 1000000)) (six n));
      allowed = all_append (decimal (n / 1000000)) (six n) (all_digits (decimal (n / 1000000)) d.0.1) digits_allowed;
    }

pub weight_name : (form : WeightForm) (w : ℕ) → w < 2 ^ 32 → IsName (weight_in form w)
weight_name Rounded w h = rounded_name w h
weight_name Exact w h = exact_name w h

-- the word of an algorithm
pub alg_name : (a : Alg) → IsName (alg_text a)
alg_name Straw = fixed (alg_text Straw) refl
alg_name Straw2 = fixed (alg_text Straw2) refl
alg_name Linked = fixed (alg_text Linked) refl

-- no byte of a name is a line feed
stays_in_line : (b : ℕ) → is_name_byte b ≡ true → not (eqb b 10) ≡ true
stays_in_line b h = grind (arith, nat_tests)

pub in_line : (w : List ℕ) → are_name_bytes w ≡ true → list_all (λ x. not (eqb x 10)) w ≡ true
in_line [] h = refl
in_line (b ∷ w) h = let p = and_parts (is_name_byte b) (are_name_bytes w) h in rw (stays_in_line b p.0, in_line w p.1) refl
