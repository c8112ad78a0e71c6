-- How a loop over the pairs of a location finds a name that occurs twice.
use Rattle.std.proofs.Common.{◌≡◌, ℕ, suc, ◌+◌, ◌-◌, ◌<◌, Bool, true, false, List, [], ◌∷◌, length, take, drop, get_or, ap, sym, ◌∙◌, refl, arith}
use Rattle.std.specs.Prelude.{not, ◌&&◌, ◌||◌, map, bytes_eq}
use Rattle.std.specs.List.{list_any}
use Rattle.std.proofs.Math.Seq.{drop-cons, take-length}
use Rattle.std.proofs.lemmas.List.{length-drop}
use Rattle.std.proofs.lemmas.Slice.Eq.{bytes_eq-Decides}
use Rattle.crush_edits.specs.declared.location.Pair.{Pair}
use Rattle.crush_model.specs.Tested.{are_apart}
use Rattle.crush_edits.specs.Located.{has_twice}

-- comparing two names in the other order gives the same result
one_way : (m n : List ℕ) (a b : Bool) → bytes_eq m n ≡ a → bytes_eq n m ≡ b → a ≡ b
one_way m n true true p q = refl
one_way m n false false p q = refl
one_way m n true false p q = absurd (let again : bytes_eq n m ≡ true = (bytes_eq-Decides n m).1 (sym ((bytes_eq-Decides m n).0 p)) in cc)
one_way m n false true p q = absurd (let again : bytes_eq m n ≡ true = (bytes_eq-Decides m n).1 (sym ((bytes_eq-Decides n m).0 q)) in cc)

-- whether some pair has the name
among : (f : Pair → List ℕ) (n : List ℕ) (l : List Pair) → list_any (λ (p : Pair). bytes_eq (f p) n) l ≡ list_any (bytes_eq n) (map f l)
among f n [] = refl
among f n (p ∷ l) =
    ap (λ b. b || list_any (λ (q : Pair). bytes_eq (f q) n) l) (one_way (f p) n (bytes_eq (f p) n) (bytes_eq n (f p)) refl refl)
    ∙ ap (λ b. bytes_eq n (f p) || b) (among f n l)

at_drop : (f : Pair → List ℕ) (l : List Pair) (k : ℕ) (p : Pair) → k < length l → p ≡ get_or l k p → map f (drop k l) ≡ f p ∷ map f (drop (k + 1) l)
at_drop f l k p h is =
    let next : k + 1 ≡ suc k = omega arith in
    ap (map f) (drop-cons l k p h) ∙ ap (λ q. f q ∷ map f (drop (suc k) l)) (sym is) ∙ ap (λ j. f p ∷ map f (drop j l)) (sym next)

-- whether a name occurs twice among the pairs that are left, from the first of them and the pairs after it
twice_cons : (f : Pair → List ℕ) (l : List Pair) (k : ℕ) (p : Pair) (b : Bool) → k < length l → p ≡ get_or l k p → b ≡ list_any (λ (q : Pair). bytes_eq (f q) (f p)) (drop (k + 1) l) →
    has_twice (map f (drop k l)) ≡ not (not b && are_apart bytes_eq (map f (drop (k + 1) l)))
twice_cons f l k p b h is requested =
    ap has_twice (at_drop f l k p h is) ∙ ap (λ c. not (not c && are_apart bytes_eq (map f (drop (k + 1) l)))) (sym (requested ∙ among f (f p) (drop (k + 1) l)))

pub twice_here : (f : Pair → List ℕ) (l : List Pair) (k : ℕ) (p : Pair) (b : Bool) → k < length l → p ≡ get_or l k p → b ≡ list_any (λ (q : Pair). bytes_eq (f q) (f p)) (drop (k + 1) l) → b ≡ true → has_twice (map f (drop k l)) ≡ true
twice_here f l k p b h is requested e = twice_cons f l k p b h is requested ∙ ap (λ c. not (not c && are_apart bytes_eq (map f (drop (k + 1) l)))) e

pub twice_later : (f : Pair → List ℕ) (l : List Pair) (k : ℕ) (p : Pair) (b : Bool) → k < length l → p ≡ get_or l k p → b ≡ list_any (λ (q : Pair). bytes_eq (f q) (f p)) (drop (k + 1) l) → b ≡ false → has_twice (map f (drop k l)) ≡ has_twice (map f (drop (k + 1) l))
twice_later f l k p b h is requested e = twice_cons f l k p b h is requested ∙ ap (λ c. not (not c && are_apart bytes_eq (map f (drop (k + 1) l)))) e

-- the pairs after one, as a slice
pub later_pairs : (l : List Pair) (k : ℕ) → take (length l - k) (drop k l) ≡ drop k l
later_pairs l k = ap (λ n. take n (drop k l)) (sym (length-drop k l)) ∙ take-length (drop k l)
