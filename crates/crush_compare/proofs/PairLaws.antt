-- Lemmas about a loop that compares two lists element by element.
use Rattle.std.proofs.Common.{◌≡◌, ℕ, zero, suc, ◌+◌, ◌<◌, ◌≤◌, Bool, true, false, List, [], ◌∷◌, ◌++◌, length, get_or, take, map, ap, sym, ◌∙◌, refl, arith}
use Rattle.std.specs.Prelude.{◌&&◌}
use Rattle.std.specs.Cmp.Lexicographic.{pointwise}
use Rattle.std.proofs.lemmas.List.{take_more, take_all, length-take-le}

and_false : (s t : Bool) → t ≡ false → (s && t) ≡ false
and_false true t h = h
and_false false t h = refl

and_both : (s t u : Bool) → (t ≡ true → u ≡ true) → (s && t) ≡ true → (s && u) ≡ true
and_both true t u f h = f h
and_both false t u f h = h

module _ {X Y Z : Type 0} (same : Z → Z → Bool) (see : X → Z) (saw : Y → Z) where
  abbrev pub same_seen : List X → List Y → Bool
  same_seen xs ys = pointwise same (map see xs) (map saw ys)

  -- lists of different lengths aren't the same
  pub pairs_of_lengths : (xs : List X) (ys : List Y) → (length xs ≡ length ys → ⊥) → same_seen xs ys ≡ false
  pairs_of_lengths [] [] other = absurd (other refl)
  pairs_of_lengths [] (y ∷ ys) other = refl
  pairs_of_lengths (x ∷ xs) [] other = refl
  pairs_of_lengths (x ∷ xs) (y ∷ ys) other = and_false (same (see x) (saw y)) (same_seen xs ys) (pairs_of_lengths xs ys (λ e. other (omega (arith, e))))

  -- if the elements at one index differ, the lists aren't the same
  pub pair_differs : (i : ℕ) (xs : List X) (ys : List Y) (x : X) (y : Y) → i < length xs → i < length ys → x ≡ get_or xs i x → y ≡ get_or ys i y → same (see x) (saw y) ≡ false → same_seen xs ys ≡ false
  pair_differs i [] ys x y lt mt is at other = absurd (omega (arith, lt))
  pair_differs i (a ∷ xs) [] x y lt mt is at other = absurd (omega (arith, mt))
  pair_differs zero (a ∷ xs) (b ∷ ys) x y lt mt is at other = (λ k. same (see (sym is k)) (saw (sym at k)) && same_seen xs ys) ∙ ap (λ t. t && same_seen xs ys) other
  pair_differs (suc i) (a ∷ xs) (b ∷ ys) x y lt mt is at other = and_false (same (see a) (saw b)) (same_seen xs ys) (pair_differs i xs ys x y (omega (arith, lt)) (omega (arith, mt)) is at other)

  -- if two lists of the same length are the same, they still are after one equal element is appended to each
  pair_last : (xs : List X) (ys : List Y) (x : X) (y : Y) → length xs ≡ length ys → same_seen xs ys ≡ true → same (see x) (saw y) ≡ true → same_seen (xs ++ x ∷ []) (ys ++ y ∷ []) ≡ true
  pair_last [] [] x y long so_far equal = ap (λ t. t && true) equal
  pair_last [] (b ∷ ys) x y long so_far equal = absurd (omega (arith, long))
  pair_last (a ∷ xs) [] x y long so_far equal = absurd (omega (arith, long))
  pair_last (a ∷ xs) (b ∷ ys) x y long so_far equal =
      and_both (same (see a) (saw b)) (same_seen xs ys) (same_seen (xs ++ x ∷ []) (ys ++ y ∷ [])) (λ h. pair_last xs ys x y (omega (arith, long)) h equal) so_far

  -- if the lists are the same in the first i elements and at the index i, they are the same in the first i + 1 elements
  pub pair_more : (i : ℕ) (xs : List X) (ys : List Y) (x : X) (y : Y) → i < length xs → i < length ys → x ≡ get_or xs i x → y ≡ get_or ys i y → same_seen (take i xs) (take i ys) ≡ true → same (see x) (saw y) ≡ true
      → same_seen (take (i + 1) xs) (take (i + 1) ys) ≡ true
  pair_more i xs ys x y lt mt is at so_far equal =
      let front : take (i + 1) xs ≡ take i xs ++ x ∷ [] = take_more xs i x lt ∙ ap (λ z. take i xs ++ z ∷ []) (sym is) in
      let others : take (i + 1) ys ≡ take i ys ++ y ∷ [] = take_more ys i y mt ∙ ap (λ z. take i ys ++ z ∷ []) (sym at) in
      let a = length-take-le i xs (omega (arith, lt)) in
      let b = length-take-le i ys (omega (arith, mt)) in
      (λ k. same_seen (front k) (others k)) ∙ pair_last (take i xs) (take i ys) x y (omega (arith, a, b)) so_far equal

  -- after the last index, the whole lists are the same
  pub all_pairs : (i : ℕ) (xs : List X) (ys : List Y) → length xs ≤ i → length xs ≡ length ys → same_seen (take i xs) (take i ys) ≡ true → same_seen xs ys ≡ true
  all_pairs i xs ys done long so_far = (λ k. same_seen (sym (take_all i xs done) k) (sym (take_all i ys (omega (arith, done, long))) k)) ∙ so_far
