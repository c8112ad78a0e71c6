-- Sorted names.
use Rattle.std.proofs.Common.{◌≡◌, ℕ, ◌+◌, ◌<◌, ◌++◌, Bool, true, false, List, [], ◌∷◌, length, get_or, map, drop, ap, sym, refl, ◌∙◌, arith}
use Rattle.std.specs.Prelude.{Option, Some, flat_map, if◌then◌else◌}
use Rattle.std.specs.Cmp.Lexicographic.{slice_cmp}
use Rattle.std.specs.List.Sorted.{IsSorted, IsSortedByKey}
use Rattle.std.specs.Ordering.{is_lt, nat_cmp}
use Rattle.std.proofs.lemmas.List.{append_assoc, append-nil, drop_more, get_or-map, length-map}
use Rattle.crush_compare.specs.Equal.{same_text}
use Rattle.crush_conflicts.specs.NewItems.{each_once}

pub sorted_names : {X : Type 0} (name : X → List ℕ) (xs : List X) → IsSortedByKey name (slice_cmp nat_cmp) xs → IsSorted (slice_cmp nat_cmp) (map name xs)
sorted_names name [] up k d low high = absurd (omega (arith, high))
sorted_names name (x ∷ xs) up k d low high =
    let same = length-map (x ∷ xs) name in
    let next : k + 1 < length (x ∷ xs) = omega (arith, high, same) in
    (λ j. is_lt (slice_cmp nat_cmp (get_or-map name (x ∷ xs) (k + 1) x d next j) (get_or-map name (x ∷ xs) k x d (omega (arith, next)) j))) ∙ up k x low next

-- the first of the names that are left
pub names_left : {X : Type 0} (name : X → List ℕ) (xs : List X) (i : ℕ) (d : X) → i < length xs → map name (drop i xs) ≡ name (get_or xs i d) ∷ map name (drop (i + 1) xs)
names_left name xs i d lt = ap (map name) (drop_more xs i d lt)

-- the text of a name, and then the text of the names that are left
by_same : (line : List ℕ → List ℕ) (old : List ℕ) (n : List ℕ) (ns : List (List ℕ)) (b : Bool)
    → (old ++ (if b then [] else line n)) ++ flat_map line (each_once (Some n) ns) ≡ old ++ flat_map line (if b then each_once (Some n) ns else n ∷ each_once (Some n) ns)
by_same line old n ns true = ap (λ l. l ++ flat_map line (each_once (Some n) ns)) (append-nil old)
by_same line old n ns false = append_assoc old (line n) (flat_map line (each_once (Some n) ns))

pub line_left : (line : List ℕ → List ℕ) (old new : List ℕ) (last : Option (List ℕ)) (n : List ℕ) (ns : List (List ℕ)) → new ≡ old ++ (if same_text last (Some n) then [] else line n)
    → new ++ flat_map line (each_once (Some n) ns) ≡ old ++ flat_map line (each_once last (n ∷ ns))
line_left line old new last n ns is = ap (λ l. l ++ flat_map line (each_once (Some n) ns)) is ∙ by_same line old n ns (same_text last (Some n))
