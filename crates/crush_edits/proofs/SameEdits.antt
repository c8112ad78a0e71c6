-- `==` says of two pairs, two locations and two edits whether they are the same value.
use Rattle.std.proofs.Common.{◌≡◌, true, List, ap, subst, refl}
use Rattle.std.specs.Bool.{Decides}
use Rattle.std.specs.Cmp.Lexicographic.{pointwise_decides}
use Rattle.std.proofs.lemmas.Bool.{and_parts}
use Rattle.std.proofs.lemmas.Slice.Eq.{bytes_eq-Decides}
use Rattle.std.proofs.lemmas.Bool.Decides.{Decides-and, Decides-like, Decides-eqb}
use Rattle.crush_edits.specs.SamePairs.{same_pair, same_pairs}
use Rattle.crush_edits.specs.SameEdit.{same_edit, same_edit_equiv}
use Rattle.crush_edits.specs.declared.location.Pair.{Pair}
use Rattle.crush_edits.specs.declared.edit.Edit.{Edit}
use Rattle.crush_edits.specs.declared.edit.Edit.TheVariants.{Place, Move, Swap, Reweight, ReweightSubtree, Remove, AddBucket, Rename, SetClass, RemoveClass}
use Rattle.crush_edits.specs.declared.edit.Placing.{Placing}
use Rattle.crush_edits.specs.declared.edit.Placing.TheVariants.{Insert, CreateOrMove, Update}
use Rattle.crush_edits.specs.contracts.edit.PlacingPartialEq.TheImpl as placing

pub same_pair-Decides : (a b : Pair) → Decides (same_pair a b) (a ≡ b)
same_pair-Decides a b = Decides-like _ (λ h i. record { kind = h.0 i; name = h.1 i }) (λ e. (ap (λ (p : Pair). p.kind) e, ap (λ (p : Pair). p.name) e)) (Decides-and _ _ (bytes_eq-Decides a.kind b.kind) (bytes_eq-Decides a.name b.name))

pub same_pairs-Decides : (l m : List Pair) → Decides (same_pairs l m) (l ≡ m)
same_pairs-Decides = pointwise_decides same_pair-Decides

same_how : (a b : Placing) → (placing.ghosts).eq a b ≡ true → a ≡ b
same_how Insert Insert e = refl
same_how Insert b e = absurd cc
same_how CreateOrMove CreateOrMove e = refl
same_how CreateOrMove b e = absurd cc
same_how Update Update e = refl
same_how Update b e = absurd cc

told : (a b : Edit) → same_edit a b ≡ true → a ≡ b
told (Place h d n w l) (Place g c m v k) e =
    let p = and_parts _ _ e in
    let q = and_parts _ _ p.1 in
    let r = and_parts _ _ q.1 in
    let s = and_parts _ _ r.1 in
    λ i. Place (same_how h g p.0 i) ((Decides-eqb d c).0 q.0 i) ((bytes_eq-Decides n m).0 r.0 i) ((Decides-eqb w v).0 s.0 i) ((same_pairs-Decides l k).0 s.1 i)
told (Place h d n w l) b e = absurd cc
told (Move n l) (Move m k) e = let p = and_parts _ _ e in λ i. Move ((bytes_eq-Decides n m).0 p.0 i) ((same_pairs-Decides l k).0 p.1 i)
told (Move n l) b e = absurd cc
told (Swap n o) (Swap m p) e = let q = and_parts _ _ e in λ i. Swap ((bytes_eq-Decides n m).0 q.0 i) ((bytes_eq-Decides o p).0 q.1 i)
told (Swap n o) b e = absurd cc
told (Reweight n w) (Reweight m v) e = let p = and_parts _ _ e in λ i. Reweight ((bytes_eq-Decides n m).0 p.0 i) ((Decides-eqb w v).0 p.1 i)
told (Reweight n w) b e = absurd cc
told (ReweightSubtree n w) (ReweightSubtree m v) e = let p = and_parts _ _ e in λ i. ReweightSubtree ((bytes_eq-Decides n m).0 p.0 i) ((Decides-eqb w v).0 p.1 i)
told (ReweightSubtree n w) b e = absurd cc
told (Remove n) (Remove m) e = ap Remove ((bytes_eq-Decides n m).0 e)
told (Remove n) b e = absurd cc
told (AddBucket n o) (AddBucket m p) e = let q = and_parts _ _ e in λ i. AddBucket ((bytes_eq-Decides n m).0 q.0 i) ((bytes_eq-Decides o p).0 q.1 i)
told (AddBucket n o) b e = absurd cc
told (Rename n o) (Rename m p) e = let q = and_parts _ _ e in λ i. Rename ((bytes_eq-Decides n m).0 q.0 i) ((bytes_eq-Decides o p).0 q.1 i)
told (Rename n o) b e = absurd cc
told (SetClass n o) (SetClass m p) e = let q = and_parts _ _ e in λ i. SetClass ((bytes_eq-Decides n m).0 q.0 i) ((bytes_eq-Decides o p).0 q.1 i)
told (SetClass n o) b e = absurd cc
told (RemoveClass n) (RemoveClass m) e = ap RemoveClass ((bytes_eq-Decides n m).0 e)
told (RemoveClass n) b e = absurd cc

pub same_edit-Decides : (a b : Edit) → Decides (same_edit a b) (a ≡ b)
same_edit-Decides a b = (told a b, λ e. subst (λ c. same_edit a c ≡ true) e (same_edit_equiv.refl a))
