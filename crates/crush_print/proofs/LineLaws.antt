-- The lines of steps that have a weight, taking one step after the other.
use Rattle.std.proofs.Common.{◌≡◌, ℕ, ◌+◌, ◌<◌, true, false, List, [], ◌∷◌, ◌++◌, length, get_or, take, map, ap, sym, subst, ◌∙◌, arith, append_assoc}
use Rattle.std.specs.Prelude.{Option, flat_map, if◌then◌else◌}
use Rattle.std.proofs.lemmas.List.{get_or-map, length-map, map_push, take_more}
use Rattle.crush_items.specs.Tree.{WalkStepData}
use Rattle.crush_print.specs.TreePart.{closed_by, down_to, is_closed}
use Rattle.crush_print.proofs.WalkLaws.{flat-map, more_steps}

-- the weight at the position of a step is the weight of this step
pub weight_is : {X Y Z : Type 0} (see : X → Y) (f : Y → Z) (xs : List X) (ws : List Z) (i : ℕ) (x : X) (w : Z) → ws ≡ map f (map see xs) → i < length xs → x ≡ get_or xs i x → ((d : Z) → i < length ws → w ≡ get_or ws i d) → w ≡ f (see x)
weight_is see f xs ws i x w are lt is at =
    at (f (see x)) (subst (λ l. i < length l) (sym are) (omega (arith, lt, length-map (map see xs) f, length-map xs see)))
    ∙ ap (λ l. get_or l i (f (see x))) are ∙ get_or-map f (map see xs) i (see x) (f (see x)) (omega (arith, lt, length-map xs see))
    ∙ ap f (get_or-map see xs i x (see x) lt) ∙ ap (λ y. f (see y)) (sym is)

-- the lines of the first i + 1 steps are the lines of the first i steps, followed by the line of step i
pub one_line : {X Y Z : Type 0} (see : X → Y) (line : Y → List Z) (now new : List Z) (xs : List X) (i : ℕ) (x : X) → i < length xs → x ≡ get_or xs i x → now ≡ flat_map line (map see (take i xs)) → new ≡ now ++ line (see x)
    → new ≡ flat_map line (map see (take (i + 1) xs))
one_line see line now new xs i x lt is before after =
    after ∙ ap (λ l. l ++ line (see x)) (before ∙ sym (flat-map line see (take i xs))) ∙ sym (more_steps (λ y. line (see y)) xs i x lt is) ∙ flat-map line see (take (i + 1) xs)

-- the first i + 1 steps, followed by the rest, are the first i steps, followed by step i and the rest
pub one_step : {X Y : Type 0} (see : X → Y) (xs : List X) (i : ℕ) (x : X) (rest : List Y) → i < length xs → x ≡ get_or xs i x → map see (take (i + 1) xs) ++ rest ≡ map see (take i xs) ++ (see x ∷ rest)
one_step see xs i x rest lt is =
    ap (λ l. map see l ++ rest) (take_more xs i x lt ∙ ap (λ y. take i xs ++ y ∷ []) (sym is)) ∙ ap (λ l. l ++ rest) (map_push see (take i xs) x) ∙ append_assoc (map see (take i xs)) (see x ∷ []) rest

-- a step below a bucket of the type has no line
pub no_line : {Z : Type 0} (line : WalkStepData → List Z) (old : List Z) (kind : ℕ) (closed : Option ℕ) (s : WalkStepData) (rest : List WalkStepData) → is_closed closed s ≡ true
    → old ++ flat_map line (down_to kind closed (s ∷ rest)) ≡ old ++ flat_map line (down_to kind closed rest)
no_line line old kind closed s rest below = ap (λ z. old ++ flat_map line (if z then down_to kind closed rest else s ∷ down_to kind (closed_by kind s) rest)) below

-- any other step has its own line
pub own_line : {Z : Type 0} (line : WalkStepData → List Z) (old new : List Z) (kind : ℕ) (closed now : Option ℕ) (s : WalkStepData) (rest : List WalkStepData) → is_closed closed s ≡ false → new ≡ old ++ line s → now ≡ closed_by kind s
    → old ++ flat_map line (down_to kind closed (s ∷ rest)) ≡ new ++ flat_map line (down_to kind now rest)
own_line line old new kind closed now s rest above after is =
    ap (λ z. old ++ flat_map line (if z then down_to kind closed rest else s ∷ down_to kind (closed_by kind s) rest)) above
    ∙ sym (append_assoc old (line s) (flat_map line (down_to kind (closed_by kind s) rest))) ∙ (λ k. sym after k ++ flat_map line (down_to kind (sym is k) rest))
