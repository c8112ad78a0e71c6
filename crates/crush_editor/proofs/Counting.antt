-- Each operator's slips are a subsequence of its entries in the history, and there are as many slips as entries. So the history has no other entries.
use Rattle.std.proofs.Common.{◌≡◌, ◌⊎◌, ℕ, zero, suc, ◌+◌, ◌<◌, ◌≤◌, List, [], ◌∷◌, ◌++◌, length, map, filter, Bool, true, false, cond, nat_eq, refl, sym, ap, ◌∙◌, subst, inl, inr, ⊎_elim, arith, eq-eqb, ne_eqb}
use mathlib.Core.Logic.{dite}
use native.Mathlib.Decide.{ℕ_discrete}
use Rattle.crush_history.specs.History.{EntryData, AnsweredData, of_operator}
use Rattle.crush_editor.specs.History.{slip}
use Rattle.crush_editor.specs.Seat.{IsSubsequence}

module _ {A : Type 0} where
  pub stands_length : (xs ys : List A) → IsSubsequence xs ys → length xs ≤ length ys
  stands_length [] ys s = omega arith
  stands_length (x ∷ xs) [] s = absurd s
  stands_length (x ∷ xs) (y ∷ ys) (inl s) = let h = stands_length xs ys s.1 in omega arith
  stands_length (x ∷ xs) (y ∷ ys) (inr s) = let h = stands_length (x ∷ xs) ys s in omega arith

  pub stands_whole : (xs ys : List A) → IsSubsequence xs ys → length ys ≤ length xs → xs ≡ ys
  stands_whole [] [] s le = refl
  stands_whole [] (y ∷ ys) s le = absurd (omega arith)
  stands_whole (x ∷ xs) [] s le = absurd s
  stands_whole (x ∷ xs) (y ∷ ys) (inl s) le = let h = stands_whole xs ys s.1 (omega arith) in let e = s.0 in cc
  stands_whole (x ∷ xs) (y ∷ ys) (inr s) le = let h = stands_length (x ∷ xs) ys s in absurd (omega arith)

  pub stands_more : (xs ys zs : List A) → IsSubsequence xs ys → IsSubsequence xs (ys ++ zs)
  stands_more [] ys zs s = tt
  stands_more (x ∷ xs) [] zs s = absurd s
  stands_more (x ∷ xs) (y ∷ ys) zs (inl s) = inl (s.0, stands_more xs ys zs s.1)
  stands_more (x ∷ xs) (y ∷ ys) zs (inr s) = inr (stands_more (x ∷ xs) ys zs s)

  stands_last : (z : A) (ys : List A) → IsSubsequence (z ∷ []) (ys ++ z ∷ [])
  stands_last z [] = inl (refl, tt)
  stands_last z (y ∷ ys) = inr (stands_last z ys)

  pub stands_push : (xs ys : List A) (z : A) → IsSubsequence xs ys → IsSubsequence (xs ++ z ∷ []) (ys ++ z ∷ [])
  stands_push [] ys z s = stands_last z ys
  stands_push (x ∷ xs) [] z s = absurd s
  stands_push (x ∷ xs) (y ∷ ys) z (inl s) = inl (s.0, stands_push xs ys z s.1)
  stands_push (x ∷ xs) (y ∷ ys) z (inr s) = inr (stands_push (x ∷ xs) ys z s)

-- the sum of f 0 to f (n - 1)
abbrev pub below : ℕ → (ℕ → ℕ) → ℕ
below zero f = 0
below (suc n) f = below n f + f n

below_le : (n : ℕ) (f g : ℕ → ℕ) → ((k : ℕ) → k < n → f k ≤ g k) → below n f ≤ below n g
below_le zero f g each = omega arith
below_le (suc n) f g each = let h = below_le n f g (λ k l. each k (omega arith)) in let e = each n (omega arith) in omega arith

-- if each term of one sum is at most that of another, and the other sum is no greater, then the terms are equal
below_same : (n : ℕ) (f g : ℕ → ℕ) → ((k : ℕ) → k < n → f k ≤ g k) → below n g ≤ below n f → (k : ℕ) → k < n → g k ≤ f k
below_same zero f g each all k l = absurd (omega arith)
below_same (suc n) f g each all k l =
    let h = below_le n f g (λ j m. each j (omega arith)) in
    let e = each n (omega arith) in
    dite (ℕ_discrete k n)
    (λ is. subst (λ (j : ℕ). g j ≤ f j) (sym is) (omega arith))
    (λ not. below_same n f g (λ j m. each j (omega arith)) (omega arith) k (omega arith))

below_suc : (n : ℕ) (f g : ℕ → ℕ) (x : ℕ) → ((k : ℕ) → g k ≡ f k + cond (nat_eq x k) 1 0) → below n g ≤ below n f + 1
below_suc n f g x each = ⊎_elim (λ h. h.1) (λ h. omega arith) (go n)
  where
    go : (m : ℕ) → ((x < m) × (below m g ≤ below m f + 1)) ⊎ ((m ≤ x) × (below m g ≤ below m f))
    go zero = inr (omega arith, omega arith)
    go (suc m) = dite (ℕ_discrete x m)
        (λ is. let e : g m ≡ f m + 1 = each m ∙ ap (λ (b : Bool). f m + cond b 1 0) (eq-eqb x m is) in
        ⊎_elim (λ h. absurd (let l = h.0 in omega arith)) (λ h. let l = h.1 in inl (omega arith, omega arith)) (go m))
        (λ not. let e : g m ≡ f m + 0 = each m ∙ ap (λ (b : Bool). f m + cond b 1 0) (ne_eqb x m not) in
        ⊎_elim (λ h. let l = h.1 in let i = h.0 in inl (omega arith, omega arith)) (λ h. let l = h.1 in let i = h.0 in inr (omega arith, omega arith)) (go m))

of-cons : (k : ℕ) (e : EntryData) (h : List EntryData) → length (of_operator k (e ∷ h)) ≡ length (of_operator k h) + cond (nat_eq e.operator k) 1 0
of-cons k e h = go (nat_eq e.operator k)
  where
    go : (b : Bool) → length (map (λ (x : EntryData). slip x.call x.reply) (cond b (e ∷ filter (λ (x : EntryData). nat_eq x.operator k) h) (filter (λ (x : EntryData). nat_eq x.operator k) h))) ≡ length (of_operator k h) + cond b 1 0
    go true = omega arith
    go false = omega arith

-- the entries of n operators are together at most as many as the entries of the whole history
parts : (n : ℕ) (h : List EntryData) → below n (λ k. length (of_operator k h)) ≤ length h
parts n [] = none n
  where
    none : (n : ℕ) → below n (λ k. length (of_operator k [])) ≤ 0
    none zero = omega arith
    none (suc n) = let h = none n in omega arith
parts n (e ∷ h) =
    let rest = parts n h in
    let one = below_suc n (λ k. length (of_operator k h)) (λ k. length (of_operator k (e ∷ h))) e.operator (λ k. of-cons k e h) in
    omega arith

-- the counting argument: if there are at least as many slips as entries, then each operator's entries are exactly its slips
pub accounts : (n : ℕ) (h : List EntryData) (slips : ℕ → List AnsweredData) → ((k : ℕ) → k < n → IsSubsequence (slips k) (of_operator k h)) → length h ≤ below n (λ k. length (slips k)) → (k : ℕ) → k < n → of_operator k h ≡ slips k
accounts n h slips stand all k l =
    let p = parts n h in
    let same = below_same n (λ j. length (slips j)) (λ j. length (of_operator j h)) (λ j m. stands_length (slips j) (of_operator j h) (stand j m)) (omega arith) k l in
    sym (stands_whole (slips k) (of_operator k h) (stand k l) same)

pub no_others : (n : ℕ) (h : List EntryData) (slips : ℕ → List AnsweredData) → ((k : ℕ) → k < n → IsSubsequence (slips k) (of_operator k h)) → length h ≤ below n (λ k. length (slips k)) → (k : ℕ) → n ≤ k → of_operator k h ≡ []
no_others n h slips stand all k l =
    let p = parts (suc k) h in
    let le = below_le n (λ j. length (slips j)) (λ j. length (of_operator j h)) (λ j m. stands_length (slips j) (of_operator j h) (stand j m)) in
    let up = rises n k (λ j. length (of_operator j h)) l in
    empty (of_operator k h) (omega arith)
  where
    rises : (n m : ℕ) (f : ℕ → ℕ) → n ≤ m → below n f ≤ below m f
    rises n zero f l = let e : n ≡ 0 = omega arith in subst (λ (j : ℕ). below j f ≤ below 0 f) (sym e) (omega arith)
    rises n (suc m) f l = dite (ℕ_discrete n (suc m)) (λ is. subst (λ (j : ℕ). below j f ≤ below (suc m) f) (sym is) (omega arith)) (λ not. let h = rises n m f (omega arith) in omega arith)

    empty : (xs : List AnsweredData) → length xs ≤ 0 → xs ≡ []
    empty [] le = refl
    empty (x ∷ xs) le = absurd (omega arith)
