-- Algorithms, numbered and compared.
use Rattle.std.proofs.Common.{◌≡◌, true, refl, ap}
use Rattle.std.proofs.lemmas.Bool.{eqb-true, eq-eqb}
use Rattle.std.specs.Prelude.{Some}
use Rattle.crush_units.specs.declared.alg.Alg.{Alg}
use Rattle.crush_units.specs.declared.alg.Alg.TheVariants.{Straw, Straw2, List as Linked}
use Rattle.crush_units.specs.Alg.{alg_number, alg_text, alg_of_text, same_alg}

-- two algorithms with the same number are equal
pub alg_number_injective : (a b : Alg) → alg_number a ≡ alg_number b → a ≡ b
alg_number_injective Straw Straw e = refl
alg_number_injective Straw2 Straw2 e = refl
alg_number_injective Linked Linked e = refl
alg_number_injective Straw Straw2 e = absurd cc
alg_number_injective Straw Linked e = absurd cc
alg_number_injective Straw2 Straw e = absurd cc
alg_number_injective Straw2 Linked e = absurd cc
alg_number_injective Linked Straw e = absurd cc
alg_number_injective Linked Straw2 e = absurd cc

-- if the test says that two algorithms are the same, they are equal
pub same_alg_equal : (a b : Alg) → same_alg a b ≡ true → a ≡ b
same_alg_equal a b e = alg_number_injective a b (eqb-true (alg_number a) (alg_number b) e)

-- if two algorithms are equal, the test says that they are the same
pub equal_same_alg : (a b : Alg) → a ≡ b → same_alg a b ≡ true
equal_same_alg a b e = eq-eqb (alg_number a) (alg_number b) (ap alg_number e)

-- the word for an algorithm names it
pub alg_of_text-alg_text : (a : Alg) → alg_of_text (alg_text a) ≡ Some a
alg_of_text-alg_text Straw = refl
alg_of_text-alg_text Straw2 = refl
alg_of_text-alg_text Linked = refl
