-- Lemmas about a loop over the elements of a list, for instance over rules.
use Rattle.std.proofs.Common.{◌≡◌, ℕ, ◌+◌, ◌<◌, List, ◌++◌, length, get_or, take, map, ap, sym, ◌∙◌}
use Rattle.std.specs.Prelude.{flat_map}
use Rattle.std.proofs.lemmas.List.Folds.{flat_map-map}
use Rattle.crush_print.proofs.WalkLaws.{more_steps}

-- the texts of the first i + 1 elements are those of the first i elements, followed by the text of one more element
pub seen_more : {X Y Z : Type 0} (line : Y → List Z) (see : X → Y) (xs : List X) (i : ℕ) (x : X) → i < length xs → x ≡ get_or xs i x
    → flat_map line (map see (take (i + 1) xs)) ≡ flat_map line (map see (take i xs)) ++ line (see x)
seen_more line see xs i x lt is =
    flat_map-map line see (take (i + 1) xs) ∙ more_steps (λ y. line (see y)) xs i x lt is ∙ ap (λ l. l ++ line (see x)) (sym (flat_map-map line see (take i xs)))
