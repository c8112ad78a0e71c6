-- The reserved words: each begins a statement or a part of one, and none begins a bucket.
use Rattle.std.proofs.Common.{◌≡◌, ℕ, Bool, true, false, List, refl, sym, ◌∙◌}
use Rattle.std.proofs.lemmas.Bool.{or_parts, or_from}
use Rattle.std.proofs.lemmas.Slice.Eq.{bytes_eq-Decides}
use Rattle.std.specs.Prelude.{codes, bytes_eq}
use Rattle.crush_edits.specs.Fits.{is_reserved}

-- the word k is none of the reserved words
pub record NoKey (k : List ℕ) : Type 0 where
  pub tunable : bytes_eq k (codes "tunable") ≡ false
  pub device : bytes_eq k (codes "device") ≡ false
  pub kind : bytes_eq k (codes "type") ≡ false
  pub rule : bytes_eq k (codes "rule") ≡ false
  pub class : bytes_eq k (codes "class") ≡ false
  pub weights : bytes_eq k (codes "choose_args") ≡ false

-- if the test says that a isn't b, then it says that b isn't a
differs : (a b : List ℕ) → bytes_eq a b ≡ false → bytes_eq b a ≡ false
differs a b e = by_test (bytes_eq b a) refl
  where
    by_test : (t : Bool) → bytes_eq b a ≡ t → bytes_eq b a ≡ false
    by_test true h = let k : true ≡ false = sym ((bytes_eq-Decides a b).1 (sym ((bytes_eq-Decides b a).0 h))) ∙ e in absurd cc
    by_test false h = h

-- a word that isn't reserved is none of the reserved words
pub no_key : (k : List ℕ) → is_reserved k ≡ false → NoKey k
no_key k h =
    let a = or_parts _ _ h in
    let b = or_parts _ _ a.1 in
    let c = or_parts _ _ b.1 in
    let d = or_parts _ _ c.1 in
    let e = or_parts _ _ d.1 in
    let f = or_parts _ _ e.1 in
    record { tunable = differs _ k a.0; device = differs _ k b.0; kind = differs _ k c.0; rule = differs _ k d.0; class = differs _ k e.0; weights = differs _ k f.0 }

-- a word that is none of the reserved words isn't reserved
pub not_reserved : (k : List ℕ) → NoKey k → is_reserved k ≡ false
not_reserved k n =
    or_from _ _ (differs k _ n.tunable)
    (or_from _ _ (differs k _ n.device)
    (or_from _ _ (differs k _ n.kind)
    (or_from _ _ (differs k _ n.rule)
    (or_from _ _ (differs k _ n.class)
    (or_from _ _ (differs k _ n.weights) refl)))))
