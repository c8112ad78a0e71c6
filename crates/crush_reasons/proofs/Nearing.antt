-- How many bytes two names have in common, for one byte more.
use Rattle.std.proofs.Common.{◌≡◌, ℕ, ◌+◌, ◌≤◌, ◌<◌, ◌==◌, Bool, true, false, List, [], ◌∷◌, length, drop, get_or, refl, ap, ◌∙◌, arith}
use Rattle.std.proofs.lemmas.List.{at_drop_all, drop-drop, drop_more}
use Rattle.std.specs.Prelude.{if◌then◌else◌}
use Rattle.crush_reasons.specs.Near.{same_heads, shared}

pub past_first : (a b : List ℕ) (i : ℕ) → length a ≤ i → same_heads (drop i a) (drop i b) ≡ false
past_first a b i le = at_drop_all (λ l. same_heads l (drop i b)) a i le

no_second : (a : List ℕ) → same_heads a [] ≡ false
no_second [] = refl
no_second (x ∷ a) = refl

pub past_second : (a b : List ℕ) (i : ℕ) → length b ≤ i → same_heads (drop i a) (drop i b) ≡ false
past_second a b i le = at_drop_all (λ l. same_heads (drop i a) l) b i le ∙ no_second (drop i a)

pub in_both : (a b : List ℕ) (i : ℕ) → i < length a → i < length b → same_heads (drop i a) (drop i b) ≡ (get_or a i 0 == get_or b i 0)
in_both a b i la lb =
    ap (λ l. same_heads l (drop i b)) (drop_more a i 0 la) ∙ ap (λ l. same_heads (get_or a i 0 ∷ drop (i + 1) a) l) (drop_more b i 0 lb)

one_more : (a b : List ℕ) → same_heads a b ≡ true → shared a b ≡ 1 + shared (drop 1 a) (drop 1 b)
one_more [] b same = absurd cc
one_more (x ∷ a) [] same = absurd cc
one_more (x ∷ a) (y ∷ b) same = ap (λ (is : Bool). if is then 1 + shared a b else 0) same

pub shared_more : (a b : List ℕ) (i : ℕ) → same_heads (drop i a) (drop i b) ≡ true → i + shared (drop i a) (drop i b) ≡ (i + 1) + shared (drop (i + 1) a) (drop (i + 1) b)
shared_more a b i same =
    let next = one_more (drop i a) (drop i b) same in
    let rests = ap (λ l. shared l (drop 1 (drop i b))) (drop-drop 1 i a) ∙ ap (λ l. shared (drop (i + 1) a) l) (drop-drop 1 i b) in
    omega (arith, next, rests)

no_more : (a b : List ℕ) → same_heads a b ≡ false → shared a b ≡ 0
no_more [] b other = refl
no_more (x ∷ a) [] other = refl
no_more (x ∷ a) (y ∷ b) other = ap (λ (is : Bool). if is then 1 + shared a b else 0) other

pub shared_whole : (a b : List ℕ) (i : ℕ) → same_heads (drop i a) (drop i b) ≡ false → i + shared (drop i a) (drop i b) ≡ i
shared_whole a b i other = omega (arith, no_more (drop i a) (drop i b) other)
