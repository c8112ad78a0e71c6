-- Texts that are written one after the other, and the prefix that has been written after a failure.
use Rattle.std.proofs.Common.{◌≡◌, ℕ, ◌+◌, ◌<◌, Result, Ok, Err, arith, refl, List, [], ◌∷◌, ◌++◌, Option, Some, None, length, take, drop, get_or, sym, ap, subst, ◌∙◌, append_assoc}
use Rattle.std.proofs.lemmas.List.{append-nil, length-append, take-append-drop, drop_more}
use Rattle.std.proofs.lemmas.List.Concat.{flat_map-append}
use Rattle.std.specs.Prelude.{flat_map}
use Rattle.std.proofs.Math.Seq.{take-add}
use Rattle.std.specs.Io.KnownBytes.{Appends}
use Rattle.crush_units.specs.Writes.{AppendsPrefix, AppendsLess, Writes}

-- if nothing is written, nothing is appended
pub appends_nothing : (a : Option (List ℕ)) → Appends a a []
appends_nothing None = tt
appends_nothing (Some xs) = sym (append-nil xs)

-- two texts that are written one after the other are appended together
pub appends_both : (a b c : Option (List ℕ)) (x y : List ℕ) → Appends a b x → Appends b c y → Appends a c (x ++ y)
appends_both None b c x y first second = tt
appends_both (Some xs) None c x y first second = absurd first
appends_both (Some xs) (Some ys) None x y first second = absurd second
appends_both (Some xs) (Some ys) (Some zs) x y first second = second ∙ ap (λ (l : List ℕ). l ++ y) first ∙ append_assoc xs x y

-- n bytes of a text are written, and then m of the remaining bytes: n + m bytes are written
pub some_more : (a b c : Option (List ℕ)) (bytes : List ℕ) (n m : ℕ) (rest : List ℕ) → rest ≡ drop n bytes → Appends a b (take n bytes) → Appends b c (take m rest) → Appends a c (take (n + m) bytes)
some_more a b c bytes n m rest is first second = subst (Appends a c) (ap (λ (r : List ℕ). take n bytes ++ take m r) is ∙ sym (take-add n m bytes)) (appends_both a b c (take n bytes) (take m rest) first second)

-- if nothing is written, a proper prefix of each text that isn't empty is written
pub nothing_is_less : (a : Option (List ℕ)) (x : List ℕ) → 0 < length x → AppendsLess a a x
nothing_is_less a x some = ([], x, refl, some, appends_nothing a)

-- a proper prefix of a text is also a proper prefix of the text followed by more
pub less_of_both : (a b : Option (List ℕ)) (x y : List ℕ) → AppendsLess a b x → AppendsLess a b (x ++ y)
less_of_both a b x y h =
    let some : 0 < length (h.1 ++ y) = simp length-append (omega (arith, h.3)) in
    (h.0, h.1 ++ y, ap (λ (l : List ℕ). l ++ y) h.2 ∙ append_assoc h.0 h.1 y, some, h.4)

-- a text, followed by a proper prefix of another, is a proper prefix of both together
pub then_less : (a b c : Option (List ℕ)) (x y : List ℕ) → Appends a b x → AppendsLess b c y → AppendsLess a c (x ++ y)
then_less a b c x y first less = (x ++ less.0, less.1, ap (λ (l : List ℕ). x ++ l) less.2 ∙ sym (append_assoc x less.0 less.1), less.3, appends_both a b c x less.0 first less.4)

-- if the first parts are written whole, and a proper prefix of the next part, then a proper prefix of all parts is written
pub parts_stop : {X : Type 0} (f : X → List ℕ) (a b c : Option (List ℕ)) (xs : List X) (i : ℕ) (d : X) → i < length xs → Appends a b (flat_map f (take i xs)) → AppendsLess b c (f (get_or xs i d)) → AppendsLess a c (flat_map f xs)
parts_stop {X = X} f a b c xs i d lt first less =
    let cut : flat_map f xs ≡ flat_map f (take i xs) ++ (f (get_or xs i d) ++ flat_map f (drop (i + 1) xs)) =
    ap (flat_map f) (sym (take-append-drop i xs) ∙ ap (λ (r : List X). take i xs ++ r) (drop_more xs i d lt)) ∙ flat_map-append f (take i xs) (get_or xs i d ∷ drop (i + 1) xs) in
    subst (AppendsLess a c) (sym cut) (then_less a b c (flat_map f (take i xs)) _ first (less_of_both b c (f (get_or xs i d)) _ less))

-- however a write ends, a prefix of the text was written
pub prefix_of_writes : {X E : Type 0} (r : Result X E) (a b : Option (List ℕ)) (x : List ℕ) → Writes r a b x → AppendsPrefix a b x
prefix_of_writes (Ok v) a b x whole = (x, [], sym (append-nil x), whole)
prefix_of_writes (Err e) a b x less = (less.0, less.1, less.2, less.4)
