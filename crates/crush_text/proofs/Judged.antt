-- What the first test that finds a fault says about all tests of a word.
use Rattle.std.proofs.Common.{◌≡◌, ℕ, ◌<◌, ◌≤◌, Bool, true, false, cond, List, [], ◌∷◌, Ok, Err, refl, ap, arith, eq-eqb}
use Rattle.std.proofs.lemmas.Bool.{and_parts, ltb-true, ne_eqb}
use Rattle.std.specs.Prelude.{nat_lt, ◌&&◌, ◌==◌}
use Rattle.crush_text.specs.declared.fault.TextFaultKind.{TextFaultKind}
use Rattle.crush_text.specs.Fault.{fault_number}
use Rattle.crush_text.specs.Tests.{Test, ◌when◌, unless}

-- whether one of the tests finds this fault
abbrev pub fires : TextFaultKind → List Test → Bool
fires f [] = false
fires f ((g when b) ∷ ts) = cond (fault_number g == fault_number f) b (fires f ts)

-- no test finds a fault with a smaller number
abbrev pub NoneFires : TextFaultKind → List Test → Type 0
NoneFires f ts = (g : TextFaultKind) → fault_number g < fault_number f → fires g ts ≡ false

-- the tests are in the order of the numbers of their faults, and these are above n
abbrev pub above : ℕ → List Test → Bool
above n [] = true
above n ((g when b) ∷ ts) = nat_lt n (fault_number g) && above (fault_number g) ts

-- so no test finds a fault whose number is at most n
pub not_below : (n : ℕ) (ts : List Test) (f : TextFaultKind) → above n ts ≡ true → fault_number f ≤ n → fires f ts ≡ false
not_below n [] f a le = refl
not_below n ((g when b) ∷ ts) f a le =
    let p = and_parts (nat_lt n (fault_number g)) (above (fault_number g) ts) a in
    let lt : n < fault_number g = ltb-true _ _ p.0 in
    let other : (fault_number g == fault_number f) ≡ false = ne_eqb _ _ (λ e. omega (arith, e, lt, le)) in
    rw other (not_below (fault_number g) ts f p.1 (omega (arith, lt, le)))

-- a test that finds nothing still finds nothing when another test comes before it
passed : (b x : Bool) → x ≡ false → cond b false x ≡ false
passed true x e = refl
passed false x e = e

-- the fault that is returned is found by a test, and no test finds a fault with a smaller number
pub first_fires : {A : Type 0} (n : ℕ) (ts : List Test) (v : A) (f : TextFaultKind) → above n ts ≡ true → unless ts v ≡ Err f → (fires f ts ≡ true) × NoneFires f ts
first_fires n [] v f a e = absurd cc
first_fires n ((g when true) ∷ ts) v f a e =
    let k : g ≡ f = cc in
    let p = and_parts (nat_lt n (fault_number g)) (above (fault_number g) ts) a in (
      rw (eq-eqb _ _ (ap fault_number k)) refl,
      λ h lt.
          let same = ap fault_number k in
          let other : (fault_number g == fault_number h) ≡ false = ne_eqb _ _ (λ q. omega (arith, q, lt, same)) in
          rw other (not_below (fault_number g) ts h p.1 (omega (arith, lt, same))),
    )
first_fires n ((g when false) ∷ ts) v f a e =
    let p = and_parts (nat_lt n (fault_number g)) (above (fault_number g) ts) a in
    let k = first_fires (fault_number g) ts v f p.1 e in
    let other : (fault_number g == fault_number f) ≡ false = ne_eqb _ _ (λ q. let none : fires f ts ≡ false = not_below (fault_number g) ts f p.1 (omega (arith, q)) in let yes = k.0 in absurd cc) in
    (rw other k.0, λ h lt. passed (fault_number g == fault_number h) (fires h ts) (k.1 h lt))

-- if a value is returned, no test finds a fault
pub none_fires : {A : Type 0} (ts : List Test) (v u : A) → unless ts v ≡ Ok u → (v ≡ u) × ((g : TextFaultKind) → fires g ts ≡ false)
none_fires [] v u e = (cc, λ g. refl)
none_fires ((g when true) ∷ ts) v u e = absurd cc
none_fires ((g when false) ∷ ts) v u e = let k = none_fires ts v u e in (k.0, λ h. passed (fault_number g == fault_number h) (fires h ts) (k.1 h))
