-- Two lists of the same length, whose elements belong together in pairs.
use Rattle.std.specs.Prelude.{List, [], ◌∷◌}

-- the lists have the same length, and P is true of their first elements, of their second elements, and so on
abbrev pub Pairwise : {X Y : Type 0} → (X → Y → Type 0) → List X → List Y → Type 0
Pairwise P [] [] = Unit {0}
Pairwise P [] (y ∷ ys) = ⊥
Pairwise P (x ∷ xs) [] = ⊥
Pairwise P (x ∷ xs) (y ∷ ys) = P x y × Pairwise P xs ys
