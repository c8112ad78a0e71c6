-- Which value a hash map and its chain together have for each key, after one key was removed, and after one key got another value.
use Rattle.std.proofs.Common.{◌≡◌, ◌⊎◌, inl, inr, ⊎_elim, ℕ, nat_eq, Bool, true, false, List, ap, sym, subst, ◌∙◌, refl, true≢false}
use Rattle.std.specs.Prelude.{◌&&◌, ◌||◌, if◌then◌else◌, Option, Some, None, IsSome, is_some, bytes_eq}
use Rattle.std.specs.Cmp.{IsEquivalence, nat_eq_equiv}
use Rattle.std.specs.Option.{option_map, option_or}
use Rattle.std.proofs.lemmas.Bool.Decides.{eqb_tells}
use Rattle.indexmap.specs.IndexMap.{IndexMap, get}
use Rattle.crush_model.proofs.Tested.{bytes_equal}
use Rattle.crush_model.proofs.Weighs.{true_or_false}
use Rattle.crush_index.specs.declared.chain.Chain.{Chain}
use Rattle.crush_index.specs.declared.hashing.Hashing.{Hashing}
use Rattle.crush_index.specs.Chains.{chain_answer, chain_with, chain_without}
use Rattle.crush_index.specs.DenseMapAnswers.{sparse_at}
use Rattle.crush_index.specs.Keys.{key_of, digest, same_key, same_key_equiv}
use Rattle.crush_index.proofs.ChainLaws.{without_told, with_told}

both_none : {X : Type 0} (b : Bool) (o p : Option X) → option_or (if b then None else o) (if b then None else p) ≡ (if b then None else option_or o p)
both_none true o p = refl
both_none false o p = refl

has : {X : Type 0} (o : Option X) → IsSome o → (x : X) × (o ≡ Some x)
has None some = absurd (true≢false (sym some))
has (Some x) some = (x, refl)

-- the value of a key in the hash map, or, if there is none, in the chain
abbrev pub told : {K T S : Type 0} → (K → K → Bool) → IndexMap K T S → Chain K T → K → Option T
told eq table overflow q = option_or (get eq table q) (chain_answer (eq q) overflow)

module _ {K T S : Type 0} (eq : K → K → Bool) (equiv : IsEquivalence eq) (old new : IndexMap K T S) (overflow gone : Chain K T) (a q : K) where
  pub linked_without : get eq new q ≡ (if eq a q then None else get eq old q) → gone ≡ chain_without (eq a) overflow → told eq new gone q ≡ (if eq a q then None else told eq old overflow q)
  linked_without without is =
      ap (λ z. option_or z (chain_answer (eq q) gone)) without
      ∙ ap (λ (c : Chain K T). option_or (if eq a q then None else get eq old q) (chain_answer (eq q) c)) is
      ∙ ap (option_or (if eq a q then None else get eq old q)) (without_told eq equiv a q overflow)
      ∙ both_none (eq a q) (get eq old q) (chain_answer (eq q) overflow)

  pub linked_with : (value : T) → get eq new q ≡ get eq old q → get eq old a ≡ None → IsSome (told eq old overflow a) → gone ≡ chain_with (eq a) value overflow
      → ((eq a q ≡ true) × (a ≡ q)) ⊎ (eq a q ≡ false) → told eq new gone q ≡ (if eq a q then Some value else told eq old overflow q)
  linked_with value same none some is alike =
      let there = has (chain_answer (eq a) overflow) (subst IsSome (ap (λ z. option_or z (chain_answer (eq a) overflow)) none) some) in
      ap (λ z. option_or z (chain_answer (eq q) gone)) same
      ∙ ap (λ (c : Chain K T). told eq old c q) is
      ∙ ap (option_or (get eq old q)) (with_told eq equiv a q value overflow)
      ∙ ⊎_elim
      (λ yes.
      ap (λ z. option_or (get eq old q) (if z then option_map (λ _. value) (chain_answer (eq a) overflow) else chain_answer (eq q) overflow)) yes.0
      ∙ ap (λ z. option_or (get eq old z) (option_map (λ _. value) (chain_answer (eq a) overflow))) (sym yes.1)
      ∙ ap (λ z. option_or z (option_map (λ _. value) (chain_answer (eq a) overflow))) none
      ∙ ap (option_map (λ _. value)) there.1
      ∙ sym (ap (λ z. if z then Some value else told eq old overflow q) yes.0))
      (λ no.
      ap (λ z. option_or (get eq old q) (if z then option_map (λ _. value) (chain_answer (eq a) overflow) else chain_answer (eq q) overflow)) no
      ∙ sym (ap (λ z. if z then Some value else told eq old overflow q) no))
      alike

-- NUMBERS
number_alike : (m n : ℕ) → ((nat_eq m n ≡ true) × (m ≡ n)) ⊎ (nat_eq m n ≡ false)
number_alike m n = ⊎_elim (λ yes. inl yes) (λ no. inr no.0) (eqb_tells m n)

pub far_without : {T S : Type 0} (old new : IndexMap ℕ T S) (overflow gone : Chain ℕ T) (number : ℕ) → ((q : ℕ) → get nat_eq new q ≡ (if nat_eq number q then None else get nat_eq old q))
    → gone ≡ chain_without (nat_eq number) overflow → (n : ℕ) → sparse_at new gone n ≡ (if nat_eq number n then None else sparse_at old overflow n)
far_without old new overflow gone number without is n = linked_without nat_eq nat_eq_equiv old new overflow gone number n (without n) is

pub far_with : {T S : Type 0} (old new : IndexMap ℕ T S) (overflow with : Chain ℕ T) (number : ℕ) (value : T) → ((q : ℕ) → get nat_eq new q ≡ get nat_eq old q) → get nat_eq old number ≡ None → IsSome (sparse_at old overflow number)
    → with ≡ chain_with (nat_eq number) value overflow → (n : ℕ) → sparse_at new with n ≡ (if nat_eq number n then Some value else sparse_at old overflow n)
far_with old new overflow with number value same none some is n = linked_with nat_eq nat_eq_equiv old new overflow with number n value (same n) none some is (number_alike number n)

-- NAMES
and_false : (b : Bool) → (b && false) ≡ false
and_false true = refl
and_false false = refl

pub key_alike : (h : Hashing) (m n : List ℕ) → same_key (key_of h m) (key_of h n) ≡ bytes_eq m n
key_alike h m n = ⊎_elim
    (λ yes. ap (λ z. same_key (key_of h m) (key_of h z)) (sym (bytes_equal m n yes)) ∙ same_key_equiv.refl (key_of h m) ∙ sym yes)
    (λ no. ap (λ z. nat_eq (digest h m) (digest h n) && z) no ∙ and_false (nat_eq (digest h m) (digest h n)) ∙ sym no)
    (true_or_false (bytes_eq m n))

name_alike : (h : Hashing) (m n : List ℕ) → ((same_key (key_of h m) (key_of h n) ≡ true) × (key_of h m ≡ key_of h n)) ⊎ (same_key (key_of h m) (key_of h n) ≡ false)
name_alike h m n = ⊎_elim
    (λ yes. inl (key_alike h m n ∙ yes, ap (key_of h) (bytes_equal m n yes)))
    (λ no. inr (key_alike h m n ∙ no))
    (true_or_false (bytes_eq m n))

module _ {T S : Type 0} (h : Hashing) (old new : IndexMap (ℕ × List ℕ) T S) (overflow gone : Chain (ℕ × List ℕ) T) (m : List ℕ) where
  pub names_without : (key : ℕ × List ℕ) → key ≡ key_of h m → ((q : ℕ × List ℕ) → get same_key new q ≡ (if same_key key q then None else get same_key old q)) → gone ≡ chain_without (same_key key) overflow
      → (n : List ℕ) → told same_key new gone (key_of h n) ≡ (if bytes_eq m n then None else told same_key old overflow (key_of h n))
  names_without key e without is n =
      linked_without same_key same_key_equiv old new overflow gone key (key_of h n) (without (key_of h n)) is
      ∙ ap (λ z. if z then None else told same_key old overflow (key_of h n)) (ap (λ z. same_key z (key_of h n)) e ∙ key_alike h m n)

  pub names_with : (key : ℕ × List ℕ) (value : T) → key ≡ key_of h m → ((q : ℕ × List ℕ) → get same_key new q ≡ get same_key old q) → get same_key old key ≡ None → IsSome (told same_key old overflow (key_of h m))
      → gone ≡ chain_with (same_key key) value overflow → (n : List ℕ) → told same_key new gone (key_of h n) ≡ (if bytes_eq m n then Some value else told same_key old overflow (key_of h n))
  names_with key value e same none some is n =
      linked_with same_key same_key_equiv old new overflow gone (key_of h m) (key_of h n) value (same (key_of h n)) (ap (get same_key old) (sym e) ∙ none) some
      (is ∙ ap (λ z. chain_with (same_key z) value overflow) e) (name_alike h m n)
      ∙ ap (λ z. if z then Some value else told same_key old overflow (key_of h n)) (key_alike h m n)

-- IDS IN USE
pub use_without : (b x : Bool) (o : Option Unit) → ((if b then false else x) || is_some (if b then None else o)) ≡ (if b then false else (x || is_some o))
use_without true x o = refl
use_without false x o = refl
