-- Lists of any length whose elements are functions of a number, and a name for each number.
use Rattle.std.proofs.Common.{◌≡◌, ℕ, zero, suc, ◌+◌, ◌*◌, ◌-◌, ◌/◌, ◌%◌, ◌<◌, Bool, true, false, List, [], ◌∷◌, ap, ◌∙◌, refl, arith, ⊎_elim}
use Rattle.std.specs.Prelude.{◌||◌, ◌&&◌, not, map, length, bytes_eq, nat_le}
use Rattle.std.specs.List.{sum_by, list_any, list_all}
use Rattle.std.proofs.lemmas.Bool.Decides.{nat_tests}
use Rattle.std.proofs.lemmas.List.Sums.{sum_by-cons}
use Rattle.crush_units.specs.Name.{is_name, is_name_byte}
use Rattle.crush_model.specs.Tested.{are_apart}
use Rattle.crush_model.proofs.Tested.{bytes_equal}
use Rattle.crush_model.proofs.Weighs.{true_or_false}

-- the elements for the numbers below n, beginning with the last
unfoldable pub numbered : {X : Type 0} → (ℕ → X) → ℕ → List X
numbered f zero = []
numbered f (suc n) = f n ∷ numbered f n

module _ {X : Type 0} (f : ℕ → X) where
  pub length-numbered : (n : ℕ) → length (numbered f n) ≡ n
  unfolding numbered
  length-numbered zero = refl
  length-numbered (suc n) = ap suc (length-numbered n)

  pub map-numbered : {Y : Type 0} (g : X → Y) (n : ℕ) → map g (numbered f n) ≡ numbered (λ k. g (f k)) n
  unfolding numbered
  map-numbered g zero = refl
  map-numbered g (suc n) = ap (λ xs. g (f n) ∷ xs) (map-numbered g n)

  pub list_all-numbered : (p : X → Bool) (n : ℕ) → ((k : ℕ) → k < n → p (f k) ≡ true) → list_all p (numbered f n) ≡ true
  unfolding numbered
  list_all-numbered p zero h = refl
  list_all-numbered p (suc n) h = (λ i. h n (omega arith) i && list_all p (numbered f n)) ∙ list_all-numbered p n (λ k l. h k (omega arith))

  pub list_any-numbered : (p : X → Bool) (n : ℕ) → ((k : ℕ) → k < n → p (f k) ≡ false) → list_any p (numbered f n) ≡ false
  unfolding numbered
  list_any-numbered p zero h = refl
  list_any-numbered p (suc n) h = (λ i. h n (omega arith) i || list_any p (numbered f n)) ∙ list_any-numbered p n (λ k l. h k (omega arith))

  pub are_apart-numbered : (same : X → X → Bool) (n : ℕ) → ((m k : ℕ) → k < m → m < n → same (f m) (f k) ≡ false) → are_apart same (numbered f n) ≡ true
  unfolding numbered
  are_apart-numbered same zero h = refl
  are_apart-numbered same (suc n) h =
      let last : list_any (same (f n)) (numbered f n) ≡ false = list_any-numbered (same (f n)) n (λ k l. h n k l (omega arith)) in
      (λ i. not (last i) && are_apart same (numbered f n)) ∙ are_apart-numbered same n (λ m k l e. h m k l (omega arith))

  pub sum_by-numbered : (g : X → ℕ) (c : ℕ) → ((k : ℕ) → g (f k) ≡ c) → (n : ℕ) → sum_by g (numbered f n) ≡ n * c
  unfolding numbered
  sum_by-numbered g c h zero = omega arith
  sum_by-numbered g c h (suc n) =
      let more : c + n * c ≡ suc n * c = omega arith in
      omega (arith, more, sum_by-cons g (f n) (numbered f n), h n, sum_by-numbered g c h n)

-- NAMES: four letters for each number below 456,976, the fourth power of 26
abbrev letter : ℕ → ℕ
letter n = 97 + n % 26

unfoldable pub letters : ℕ → List ℕ
letters n = letter n ∷ (letter (n / 26) ∷ (letter (n / 26 / 26) ∷ (letter (n / 26 / 26 / 26) ∷ [])))

letter_of_a_name : (n : ℕ) → is_name_byte (letter n) ≡ true
letter_of_a_name n =
    let least : nat_le 97 (letter n) ≡ true = grind (arith, nat_tests) in
    let most : nat_le (letter n) 122 ≡ true = grind (arith, nat_tests) in
    grind (arith, nat_tests)

pub is_name-letters : (n : ℕ) → is_name (letters n) ≡ true
unfolding letters
is_name-letters n =
    λ i. letter_of_a_name n i && (letter_of_a_name (n / 26) i && (letter_of_a_name (n / 26 / 26) i && (letter_of_a_name (n / 26 / 26 / 26) i && true)))

-- a name with one more letter in front is a name
pub is_name-lettered : (c n : ℕ) → is_name_byte c ≡ true → is_name (c ∷ letters n) ≡ true
unfolding letters
is_name-lettered c n h =
    λ i. h i && (letter_of_a_name n i && (letter_of_a_name (n / 26) i && (letter_of_a_name (n / 26 / 26) i && (letter_of_a_name (n / 26 / 26 / 26) i && true))))

-- the number that a name was made from
number : List ℕ → ℕ
number (a ∷ (b ∷ (c ∷ (d ∷ [])))) = (a - 97) + 26 * ((b - 97) + 26 * ((c - 97) + 26 * (d - 97)))
number other = 0

number-letters : (n : ℕ) → n < 456976 → number (letters n) ≡ n
unfolding letters number
number-letters n h = omega arith

-- the names of two numbers differ
pub letters_differ : (m n : ℕ) → m < 456976 → n < m → bytes_eq (letters m) (letters n) ≡ false
letters_differ m n h l = ⊎_elim
    (λ e. absurd (let same : number (letters m) ≡ number (letters n) = ap number (bytes_equal (letters m) (letters n) e) in omega (arith, same, number-letters m h, number-letters n (omega arith))))
    (λ e. e)
    (true_or_false (bytes_eq (letters m) (letters n)))
