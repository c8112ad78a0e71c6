-- Two lists whose elements belong together, element by element.
use Rattle.std.proofs.Common.{◌≡◌, ℕ, zero, suc, ◌+◌, ◌<◌, ◌≤◌, List, [], ◌∷◌, ◌++◌, length, take, get_or, ap, subst, sym, refl, arith, ◌∙◌}
use Rattle.std.proofs.lemmas.List.{take_all}
use Rattle.crush_conflicts.specs.Pairwise.{Pairwise}

-- one more element of each list
pub pairwise_push : {X Y : Type 0} (P : X → Y → Type 0) (xs : List X) (ys : List Y) (x : X) (y : Y) → Pairwise P xs ys → P x y → Pairwise P (xs ++ x ∷ []) (ys ++ y ∷ [])
pairwise_push P [] [] x y all one = (one, tt)
pairwise_push P [] (z ∷ ys) x y all one = absurd all
pairwise_push P (w ∷ xs) [] x y all one = absurd all
pairwise_push P (w ∷ xs) (z ∷ ys) x y all one = (all.0, pairwise_push P xs ys x y all.1 one)

-- lists that have one more element each
pub pairwise_more : {X Y : Type 0} (P : X → Y → Type 0) (xs more : List X) (ys others : List Y) (x : X) (y : Y) → Pairwise P xs ys → more ≡ xs ++ x ∷ [] → others ≡ ys ++ y ∷ [] → P x y → Pairwise P more others
pairwise_more P xs more ys others x y all is are one =
    subst (λ l. Pairwise P l others) (sym is) (subst (Pairwise P (xs ++ x ∷ [])) (sym are) (pairwise_push P xs ys x y all one))

-- the element that belongs to the one at the position i
pub record PairAt {X Y : Type 0} (P : X → Y → Type 0) (xs : List X) (i : ℕ) (y : Y) : Type 0 where
  pub first : X
  pub both : P first y
  pub next : take (suc i) xs ≡ take i xs ++ first ∷ []

pub pair_at : {X Y : Type 0} (P : X → Y → Type 0) (xs : List X) (ys : List Y) (i : ℕ) (y : Y) → Pairwise P xs ys → i < length ys → y ≡ get_or ys i y → PairAt P xs i y
pair_at P xs [] i y all lt is = absurd (omega (arith, lt))
pair_at P [] (z ∷ ys) i y all lt is = absurd all
pair_at P (x ∷ xs) (z ∷ ys) zero y all lt is = record { first = x; both = subst (P x) (sym is) all.0; next = refl }
pair_at P (x ∷ xs) (z ∷ ys) (suc i) y all lt is =
    let rest = pair_at P xs ys i y all.1 (omega (arith, lt)) is in
    record { first = rest.first; both = rest.both; next = ap (λ l. x ∷ l) rest.next }

-- all elements of the one list are those that belong to all of the other
pub pairwise_all : {X Y : Type 0} (P : X → Y → Type 0) (xs : List X) (ys : List Y) (i : ℕ) → Pairwise P xs ys → length ys ≤ i → take i xs ≡ xs
pairwise_all P [] [] i all le = take_all i [] (omega arith)
pairwise_all P [] (z ∷ ys) i all le = absurd all
pairwise_all P (x ∷ xs) [] i all le = absurd all
pairwise_all P (x ∷ xs) (z ∷ ys) zero all le = absurd (omega (arith, le))
pairwise_all P (x ∷ xs) (z ∷ ys) (suc i) all le = ap (λ l. x ∷ l) (pairwise_all P xs ys i all.1 (omega (arith, le)))
