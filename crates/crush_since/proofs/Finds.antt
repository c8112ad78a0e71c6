-- Lemmas about a loop that searches a list for the first element that passes a test.
use Rattle.std.proofs.Common.{◌≡◌, ℕ, zero, suc, ◌+◌, ◌<◌, Bool, true, false, List, [], ◌∷◌, ◌++◌, length, get_or, take, map, Some, None, cond, refl, sym, ap, ◌∙◌, arith, ◌==◌, eq-eqb, ⊎_elim}
use Rattle.std.specs.Option.{option_or}
use Rattle.std.proofs.lemmas.Bool.Decides.{eqb_tells}
use Rattle.std.proofs.lemmas.List.{map_push, take_more}
use Rattle.std.proofs.lemmas.List.Folds.{find-append}
use Rattle.std.specs.Prelude.{find}

-- an element that passes the test is the first, if no element before it passes
pub found_here : {X Y : Type 0} (see : X → Y) (test : Y → Bool) (xs : List X) (i : ℕ) (x : X) → i < length xs → x ≡ get_or xs i x → find test (map see (take i xs)) ≡ None → test (see x) ≡ true → Some (see x) ≡ find test (map see xs)
found_here see test [] i x lt is none passes = absurd (omega arith)
found_here see test (y ∷ xs) zero x lt is none passes =
    ap (λ z. Some (see z)) is ∙ sym (ap (λ b. cond b (Some (see y)) (find test (map see xs))) (ap (λ z. test (see z)) (sym is) ∙ passes))
found_here see test (y ∷ xs) (suc i) x lt is none passes = by_test (test (see y)) refl none (λ h. found_here see test xs i x (omega arith) is h passes) where
  by_test : (b : Bool) → test (see y) ≡ b → cond b (Some (see y)) (find test (map see (take i xs))) ≡ None → (find test (map see (take i xs)) ≡ None → Some (see x) ≡ find test (map see xs)) → Some (see x) ≡ cond (test (see y)) (Some (see y)) (find test (map see xs))
  by_test true e h rest = absurd cc
  by_test false e h rest = rest h ∙ sym (ap (λ b. cond b (Some (see y)) (find test (map see xs))) e)

-- if neither the elements so far nor the next element pass the test, no element up to the next one passes it
pub not_here : {X Y : Type 0} (see : X → Y) (test : Y → Bool) (xs : List X) (i : ℕ) (x : X) → i < length xs → x ≡ get_or xs i x → find test (map see (take i xs)) ≡ None → test (see x) ≡ false → find test (map see (take (i + 1) xs)) ≡ None
not_here see test xs i x lt is none fails =
    ap (λ l. find test (map see l)) (take_more xs i x lt ∙ ap (λ y. take i xs ++ y ∷ []) (sym is)) ∙ ap (find test) (map_push see (take i xs) x)
    ∙ find-append test (map see (take i xs)) (see x ∷ []) ∙ (λ k. option_or (none k) (cond (fails k) (Some (see x)) None))

-- the test of equal numbers is true
pub equal : (a b : ℕ) → a ≡ b → (a == b) ≡ true
equal a b h = eq-eqb a b h

pub other : (a b : ℕ) → (a ≡ b → ⊥) → (a == b) ≡ false
other a b h = ⊎_elim (λ q. absurd (h q.1)) (λ q. q.0) (eqb_tells a b)
