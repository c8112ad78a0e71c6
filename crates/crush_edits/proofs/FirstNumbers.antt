-- The index from the names of types to their numbers.
use Rattle.std.proofs.Common.{◌≡◌, ℕ, Bool, true, false, List, [], ◌∷◌, ◌++◌, refl, sym, subst, ◌∙◌, true≢false}
use Rattle.std.specs.BTreeMap.{BTreeMap, Updates}
use Rattle.std.specs.Cmp.{eq_by_cmp_equiv}
use Rattle.std.specs.Cmp.Lexicographic.{slice_cmp, nat_list_cmp_total, nat_list_eq_equiv}
use Rattle.std.specs.Map.{lookup, IsKeyTest, AreApart, KeepsOthers}
use Rattle.std.specs.Option.{is_some, option_or, option_map}
use Rattle.std.specs.Ordering.{is_eq, nat_cmp}
use Rattle.std.specs.Prelude.{Option, Some, None, Vec, if◌then◌else◌, find, bytes_eq}
use Rattle.std.proofs.lemmas.Map.Text.{is_eq-slice_cmp}
use Rattle.crush_model.proofs.Tested.{bytes_equal}
use Rattle.crush_edits.specs.Setting.{KindData, first_number}
use Rattle.crush_edits.specs.KindsTold.{number_told, AreNumbersOf, TellsFirst}

-- a name that differs from the one that gets a number is looked up as before
apart : (name n key : List ℕ) → bytes_eq name n ≡ false → is_eq (slice_cmp nat_cmp name key) ≡ true → is_eq (slice_cmp nat_cmp n key) ≡ false
apart name n key differs e =
    is_eq-slice_cmp n key ∙ nat_list_eq_equiv.symm n key ∙ sym (nat_list_eq_equiv.congr name key n (sym (is_eq-slice_cmp name key) ∙ e)) ∙ differs

others : {K X : Type 0} (eq : K → K → Bool) (test : K → Bool) (old new : List (K × X)) → KeepsOthers eq test old new → (other : K → Bool) → IsKeyTest eq other → AreApart test other → lookup other new ≡ lookup other old
unfolding KeepsOthers
others eq test old new h = h

-- the index after one more name has got a number
pub told_with : {Z : Type 0} (old new : BTreeMap (Vec ℕ Z) ℕ) (name : Vec ℕ Z) (number : ℕ) → Updates (λ (x y : Vec ℕ Z). slice_cmp nat_cmp x.items y.items) old new name (Some number)
    → (n : List ℕ) → number_told new n ≡ (if bytes_eq name.items n then Some number else number_told old n)
told_with old new name number h n = by (bytes_eq name.items n) refl
  where
    by : (b : Bool) → bytes_eq name.items n ≡ b → number_told new n ≡ (if b then Some number else number_told old n)
    by true e = subst (λ m. number_told new m ≡ Some number) (bytes_equal name.items n e) h.1
    by false e = others _ _ _ _ h.3 _ (λ x y. (eq_by_cmp_equiv nat_list_cmp_total).congr n x.items y.items) (λ k. apart name.items n k.items e)

-- f is what the index has for each name; one name gets a number if it has none, and all others keep theirs
module _ (f : List ℕ → Option ℕ) (name : List ℕ) (number : ℕ) where
  or_none : (o : Option ℕ) → o ≡ option_or o None
  or_none None = refl
  or_none (Some x) = refl

  or_more : (o p : Option ℕ) → is_some o ≡ true → o ≡ option_or o p
  or_more None p e = absurd (true≢false (sym e))
  or_more (Some x) p e = refl

  or_first : (o p : Option ℕ) → is_some o ≡ false → p ≡ option_or o p
  or_first None p e = refl
  or_first (Some x) p e = absurd (true≢false e)

  pub first_there : is_some (f name) ≡ true → (n : List ℕ) → f n ≡ option_or (f n) (if bytes_eq name n then Some number else None)
  first_there there n = by (bytes_eq name n) refl
    where
      by : (b : Bool) → bytes_eq name n ≡ b → f n ≡ option_or (f n) (if b then Some number else None)
      by true e = or_more (f n) (Some number) (subst (λ m. is_some (f m) ≡ true) (bytes_equal name n e) there)
      by false e = or_none (f n)

  pub first_new : is_some (f name) ≡ false → (n : List ℕ) → (if bytes_eq name n then Some number else f n) ≡ option_or (f n) (if bytes_eq name n then Some number else None)
  first_new lacks n = by (bytes_eq name n) refl
    where
      by : (b : Bool) → bytes_eq name n ≡ b → (if b then Some number else f n) ≡ option_or (f n) (if b then Some number else None)
      by true e = or_first (f n) (Some number) (subst (λ m. is_some (f m) ≡ false) (bytes_equal name n e) lacks)
      by false e = or_none (f n)

-- the number of a name, with one type more at the end
pub first_number-push : (kinds : List KindData) (k : KindData) (n : List ℕ) → first_number (kinds ++ k ∷ []) n ≡ option_or (first_number kinds n) (if bytes_eq k.name n then Some k.number else None)
first_number-push [] k n = by (bytes_eq k.name n)
  where
    by : (b : Bool) → option_map (λ (x : KindData). x.number) (if b then Some k else None) ≡ (if b then Some k.number else None)
    by true = refl
    by false = refl
first_number-push (x ∷ kinds) k n = by (bytes_eq x.name n) (first_number-push kinds k n)
  where
    by : (b : Bool) → first_number (kinds ++ k ∷ []) n ≡ option_or (first_number kinds n) (if bytes_eq k.name n then Some k.number else None)
        → option_map (λ (y : KindData). y.number) (if b then Some x else find (λ (y : KindData). bytes_eq y.name n) (kinds ++ k ∷ []))
        ≡ option_or (option_map (λ (y : KindData). y.number) (if b then Some x else find (λ (y : KindData). bytes_eq y.name n) kinds)) (if bytes_eq k.name n then Some k.number else None)
    by true rest = refl
    by false rest = rest

-- the index stays right when a type is appended
pub numbers_pushed : {Z : Type 0} (old new : BTreeMap (Vec ℕ Z) ℕ) (kinds : List KindData) (name : List ℕ) (k : KindData) → AreNumbersOf kinds old → name ≡ k.name → TellsFirst old new name k.number → AreNumbersOf (kinds ++ k ∷ []) new
numbers_pushed old new kinds name k numbers same told n =
    told n ∙ (λ j. option_or (numbers n j) (if bytes_eq (same j) n then Some k.number else None)) ∙ sym (first_number-push kinds k n)
