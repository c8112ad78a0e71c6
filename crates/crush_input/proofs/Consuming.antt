-- Bytes taken from a reader, one piece after the other.
use Rattle.std.proofs.Common.{◌≡◌, ℕ, ◌≤◌, ◌+◌, List, [], ◌++◌, Option, Some, None, length, take, refl, sym, ap, subst, ◌∙◌, arith}
use Rattle.std.proofs.lemmas.List.{append-nil, length-append, take_at, take_all}
use Rattle.std.proofs.KnownBytes.{Consumes-kept, Consumes-trans}
use Rattle.std.specs.Prelude.{IfSome}
use Rattle.std.specs.Io.KnownBytes.{Consumes, IsAtEnd, Keeps}
use Rattle.crush_input.specs.Input.{TakesFew, TakesMost}

-- at first, nothing is taken
pub Consumes-nothing : (a : Option (List ℕ)) → Consumes a a []
Consumes-nothing None = tt
Consumes-nothing (Some xs) = refl

-- if a reader gave no bytes, it gave few bytes
pub few_nothing : (a b : Option (List ℕ)) → b ≡ a → TakesFew a b
few_nothing a b same = ([], omega arith, subst (λ (c : Option (List ℕ)). Consumes a c []) (sym same) (Consumes-nothing a))

-- if n bytes were taken, they are the first n bytes of all bytes
pub prefix_of_all : (a b : Option (List ℕ)) (x : List ℕ) (n : ℕ) → Consumes a b x → length x ≡ n → IfSome a (λ all. x ≡ take n all)
prefix_of_all None b x n h e = tt
prefix_of_all (Some xs) None x n h e = absurd h
prefix_of_all (Some xs) (Some ys) x n h e = sym (ap (take n) h ∙ take_at x ys n e)

-- at the end of the reader all bytes have been taken; so they are also the first n bytes of all bytes, for each n that isn't less than their number
pub all_of_it : (a b : Option (List ℕ)) (x : List ℕ) (n : ℕ) → Consumes a b x → IsAtEnd b → length x ≤ n → IfSome a (λ all. x ≡ take n all)
all_of_it None b x n h e l = tt
all_of_it (Some xs) None x n h e l = absurd h
all_of_it (Some xs) (Some ys) x n h e l =
    let whole : xs ≡ x = h ∙ ap (λ (z : List ℕ). x ++ z) e ∙ append-nil x in
    sym (ap (take n) whole ∙ take_all n x l)

-- a read that gave no byte changes nothing
pub Consumes-no_more : (a b c : Option (List ℕ)) (x y : List ℕ) (n : ℕ) → Consumes a b x → Consumes b c (take n y) → n ≡ 0 → Consumes a c x
Consumes-no_more a b c x y n h k e =
    let none : take n y ≡ [] = ap (λ (m : ℕ). take m y) e in
    subst (Consumes a c) (append-nil x) (subst (λ (z : List ℕ). Consumes a c (x ++ z)) none (Consumes-trans a b c x (take n y) h k))

-- the bytes of a read are appended to those that were taken before
pub Consumes-piece : (a b c : Option (List ℕ)) (x p z : List ℕ) → Consumes a b x → Consumes b c p → z ≡ x ++ p → Consumes a c z
Consumes-piece a b c x p z h k e = subst (Consumes a c) (sym e) (Consumes-trans a b c x p h k)

-- a read that failed took no byte
pub most_kept : (most : ℕ) (a b c : Option (List ℕ)) (x : List ℕ) → Consumes a b x → Keeps b c → length x ≤ most → TakesMost most a c
most_kept most a b c x h k few = (x, few, Consumes-kept a b c x h k)

-- a piece that was read counts as taken, even if it isn't stored
pub most_then : (most : ℕ) (a b c : Option (List ℕ)) (x y : List ℕ) → Consumes a b x → Consumes b c y → length x + length y ≤ most → TakesMost most a c
most_then most a b c x y h k few = (x ++ y, omega (arith, few, length-append x y), Consumes-trans a b c x y h k)
