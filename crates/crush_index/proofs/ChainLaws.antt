-- Which value a chain has for each key after one key got another value, and after one key was removed.
use Rattle.std.proofs.Common.{◌≡◌, Bool, true, false, sym, ◌∙◌, refl, true≢false}
use Rattle.std.specs.Prelude.{if◌then◌else◌, Option, Some, None}
use Rattle.std.specs.Cmp.{IsEquivalence}
use Rattle.std.specs.Option.{option_map}
use Rattle.crush_index.specs.declared.chain.Chain.{Chain}
use Rattle.crush_index.specs.declared.chain.Chain.TheVariants.{End, Link'}
use Rattle.crush_index.specs.Chains.{chain_answer, chain_with, chain_without}

answer_if : {K V : Type 0} (test : K → Bool) (x : Bool) (p q : Chain K V) → chain_answer test (if x then p else q) ≡ (if x then chain_answer test p else chain_answer test q)
answer_if test true p q = refl
answer_if test false p q = refl

-- the answer for a key after another key was removed. x: whether the first link has the removed key; y: whether it has the requested key; z: whether these keys are the same
without_link : {V : Type 0} (x y z : Bool) → (x ≡ true → z ≡ y) → (y ≡ true → z ≡ x) → (m r : Option V) (v : V) → m ≡ (if z then None else r)
    → (if x then m else (if y then Some v else m)) ≡ (if z then None else (if y then Some v else r))
without_link true y true first second m r v e = e
without_link true true false first second m r v e = absurd (true≢false (sym (first refl)))
without_link true false false first second m r v e = e
without_link false true true first second m r v e = absurd (true≢false (second refl))
without_link false true false first second m r v e = refl
without_link false false true first second m r v e = e
without_link false false false first second m r v e = e

with_link : {V : Type 0} (x y z : Bool) → (x ≡ true → z ≡ y) → (y ≡ true → z ≡ x) → (m a r : Option V) (v w : V) → m ≡ (if z then option_map (λ _. w) a else r)
    → (if x then (if y then Some w else r) else (if y then Some v else m)) ≡ (if z then option_map (λ _. w) (if x then Some v else a) else (if y then Some v else r))
with_link true true true first second m a r v w e = refl
with_link true false true first second m a r v w e = absurd (true≢false (first refl))
with_link true true false first second m a r v w e = absurd (true≢false (sym (first refl)))
with_link true false false first second m a r v w e = refl
with_link false true true first second m a r v w e = absurd (true≢false (second refl))
with_link false true false first second m a r v w e = refl
with_link false false true first second m a r v w e = e
with_link false false false first second m a r v w e = e

no_link : {V : Type 0} (z : Bool) → ◌≡◌ {A = Option V} None (if z then None else None)
no_link true = refl
no_link false = refl

no_value : {V : Type 0} (w : V) (z : Bool) → ◌≡◌ {A = Option V} None (if z then option_map {T = V} (λ _. w) None else None)
no_value w true = refl
no_value w false = refl

first_is : {K : Type 0} (eq : K → K → Bool) → IsEquivalence eq → (a b k : K) → eq a k ≡ true → eq a b ≡ eq b k
first_is eq equiv a b k e = equiv.congr a k b e ∙ equiv.symm k b

second_is : {K : Type 0} (eq : K → K → Bool) → IsEquivalence eq → (a b k : K) → eq b k ≡ true → eq a b ≡ eq a k
second_is eq equiv a b k e = equiv.symm a b ∙ equiv.congr b k a e ∙ equiv.symm k a

module _ {K V : Type 0} (eq : K → K → Bool) (equiv : IsEquivalence eq) (a b : K) where
  pub without_told : (chain : Chain K V) → chain_answer (eq b) (chain_without (eq a) chain) ≡ (if eq a b then None else chain_answer (eq b) chain)
  without_told End = no_link (eq a b)
  without_told (Link' k v box rest) =
      answer_if (eq b) (eq a k) (chain_without (eq a) rest) (Link' k v box (chain_without (eq a) rest))
      ∙ without_link (eq a k) (eq b k) (eq a b) (first_is eq equiv a b k) (second_is eq equiv a b k) (chain_answer (eq b) (chain_without (eq a) rest)) (chain_answer (eq b) rest) v (without_told rest)

  pub with_told : (w : V) (chain : Chain K V) → chain_answer (eq b) (chain_with (eq a) w chain) ≡ (if eq a b then option_map (λ _. w) (chain_answer (eq a) chain) else chain_answer (eq b) chain)
  with_told w End = no_value w (eq a b)
  with_told w (Link' k v box rest) =
      answer_if (eq b) (eq a k) (Link' k w box rest) (Link' k v box (chain_with (eq a) w rest))
      ∙ with_link (eq a k) (eq b k) (eq a b) (first_is eq equiv a b k) (second_is eq equiv a b k) (chain_answer (eq b) (chain_with (eq a) w rest)) (chain_answer (eq a) rest) (chain_answer (eq b) rest) v w (with_told w rest)
