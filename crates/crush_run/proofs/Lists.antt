-- A loop that consumes a list and fills another.
use Rattle.std.proofs.Common.{◌≡◌, ℕ, zero, suc, ◌+◌, ◌<◌, List, [], ◌∷◌, ◌++◌, length, drop, get_or, refl, sym, ap, ◌∙◌, subst, arith, drop-cons}
use Rattle.std.proofs.lemmas.List.{get_or_append_left}
use Rattle.std.proofs.Math.Seq.{get_or-append_seam}
use mathlib.Core.Logic.{dite}
use native.Mathlib.Decide.{dec_le}

module _ {A : Type 0} where
  pub dropped : (xs rest rest' : List A) (x d : A) (n : ℕ) → rest ≡ drop n xs → rest ≡ x ∷ rest' → n < length xs → (rest' ≡ drop (n + 1) xs) × (x ≡ get_or xs n d)
  dropped xs rest rest' x d n is next below' =
      let at : x ∷ rest' ≡ get_or xs n d ∷ drop (suc n) xs = sym next ∙ is ∙ drop-cons xs n d below' in
      let one : suc n ≡ n + 1 = omega arith in
      let r : rest' ≡ drop (suc n) xs = cc in
      let h : x ≡ get_or xs n d = cc in
      (r ∙ ap (λ (k : ℕ). drop k xs) one, h)

  pub pushed : (P : ℕ → A → Type 0) (xs : List A) (x : A) (n : ℕ) → length xs ≡ n → ((k : ℕ) (d : A) → k < n → P k (get_or xs k d)) → P n x → (k : ℕ) (d : A) → k < n + 1 → P k (get_or (xs ++ x ∷ []) k d)
  pushed P xs x n len each here k d less = dite (dec_le (suc k) n)
      (λ was. subst (P k) (sym (get_or_append_left xs (x ∷ []) d k (omega arith))) (each k d was))
      (λ new.
      let e : n ≡ k = omega arith in
      let l : length xs ≡ k = omega arith in
      subst (P k) (sym (ap (λ (j : ℕ). get_or (xs ++ x ∷ []) j d) (sym l) ∙ get_or-append_seam xs x [] d)) (subst (λ (j : ℕ). P j x) e here))

  -- a list has the same element at an index, whatever the default value is
  pub element_at : (xs : List A) (k : ℕ) → k < length xs → (x : A) × ((d : A) → get_or xs k d ≡ x)
  element_at [] k less = absurd (omega arith)
  element_at (x ∷ xs) zero less = (x, λ d. refl)
  element_at (x ∷ xs) (suc k) less = element_at xs k (omega arith)
