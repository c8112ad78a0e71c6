-- Writes bytes one after the other, each as a message shows it.
use Rattle.std.proofs.Common.{◌≡◌, ℕ, ◌+◌, ◌<◌, List, [], ◌∷◌, ◌++◌, Option, length, take, drop, get_or, map, sym, ap, subst, ◌∙◌}
use Rattle.std.proofs.lemmas.List.{drop_more, map-append, take-append-drop}
use Rattle.std.specs.Io.KnownBytes.{Appends}
use Rattle.crush_units.specs.Writes.{AppendsLess}
use Rattle.crush_units.proofs.Appending.{less_of_both, then_less}

-- the first i bytes are written, and then less than the next byte
pub shown_stops : (f : ℕ → ℕ) (a b c : Option (List ℕ)) (xs : List ℕ) (i d : ℕ) → i < length xs → Appends a b (map f (take i xs)) → AppendsLess b c (f (get_or xs i d) ∷ []) → AppendsLess a c (map f xs)
shown_stops f a b c xs i d lt first less =
    let cut : map f xs ≡ map f (take i xs) ++ (f (get_or xs i d) ∷ map f (drop (i + 1) xs)) =
    ap (map f) (sym (take-append-drop i xs) ∙ ap (λ (r : List ℕ). take i xs ++ r) (drop_more xs i d lt)) ∙ map-append f (take i xs) (get_or xs i d ∷ drop (i + 1) xs) in
    subst (AppendsLess a c) (sym cut) (then_less a b c (map f (take i xs)) _ first (less_of_both b c (f (get_or xs i d) ∷ []) (map f (drop (i + 1) xs)) less))
