-- A root with all that is below it is a lawful table by itself.
use Rattle.std.proofs.Common.{◌≡◌, ℕ, true, false, List, [], ◌∷◌, ap, sym, subst, ◌∙◌, refl, ⊎_elim}
use Rattle.std.specs.Prelude.{◌||◌, if◌then◌else◌, Option, Some, None, All, map, filter, is_some, option_and_then}
use Rattle.std.proofs.lemmas.List.Elements.{All-head, All-tail, All-weaker, All-filter}
use Rattle.crush_units.specs.declared.id.ItemId.{ItemId}
use Rattle.crush_units.specs.declared.id.ItemId.TheVariants.{Bucket}
use Rattle.crush_units.proofs.Ids.{same_id_tells}
use Rattle.crush_model.specs.Table.{Row, row_of, parent_of, is_placed}
use Rattle.crush_model.specs.Lawful.{Lawful}
use Rattle.crush_model.specs.Columns.{is_under, is_part, as_root, part}
use Rattle.crush_model.proofs.Relocated.{under_parent}
use Rattle.crush_model.proofs.Removed.{Lawful-only}
use Rattle.crush_model.proofs.Weighs.{All-found}

-- the row of a root doesn't change when it loses its parent
pub as_root-root : (t : List Row) (i : ItemId) → Lawful t → parent_of t i ≡ None → All (λ (r : Row). as_root i r ≡ r) t
as_root-root t i l root = All-weaker (λ (r : Row). row_of t r.id ≡ Some r) (λ (r : Row). as_root i r ≡ r) each t (All-found t l.ids) where
  each : (r : Row) → row_of t r.id ≡ Some r → as_root i r ≡ r
  each r e = ⊎_elim
      (λ p. let none : r.parent ≡ None = ap (option_and_then (λ (x : Row). x.parent)) (sym (sym (ap (row_of t) p.1) ∙ e)) ∙ root in
      ap (λ b. if b then record r { parent = None } else r) p.0 ∙ (λ k. record r { parent = sym none k }))
      (λ p. ap (λ b. if b then record r { parent = None } else r) p.0)
      (same_id_tells r.id i)

-- a map that changes no element gives the same list
pub map_same : {X : Type 0} (f : X → X) (xs : List X) → All (λ x. f x ≡ x) xs → map f xs ≡ xs
map_same f [] a = refl
map_same f (x ∷ xs) a = λ k. All-head (λ y. f y ≡ y) x xs a k ∷ map_same f xs (All-tail (λ y. f y ≡ y) x xs a) k

-- if the parent of an item is in the part, then the item is in the part
pub is_part-parent : (t : List Row) (i : ItemId) → Lawful t → parent_of t i ≡ None → (j : ItemId) (p : ℕ) → is_part t i j ≡ true → parent_of t j ≡ Some p → is_part t i (Bucket p) ≡ true
is_part-parent t i l root j p h e = ⊎_elim
    (λ q. absurd (let never : ◌≡◌ {A = Option ℕ} None (Some p) = sym root ∙ ap (parent_of t) (sym q.1) ∙ e in cc))
    (λ q. let under : is_under t i j ≡ true = sym (ap (λ b. b || is_under t i j) q.0) ∙ h in sym (under_parent t l i j p e) ∙ under)
    (same_id_tells j i)

-- THE LAW
pub Lawful-part : (t : List Row) (i : ItemId) → Lawful t → parent_of t i ≡ None → Lawful (part i t)
Lawful-part t i l root =
    subst Lawful (sym (map_same (as_root i) (filter (λ (r : Row). is_part t i r.id) t) (All-filter (λ (r : Row). is_part t i r.id) (λ (r : Row). as_root i r ≡ r) t (as_root-root t i l root))))
    (Lawful-only (is_part t i) t (is_part-parent t i l root) l)

-- the law, with the test that the item isn't placed
pub Lawful-part_placed : (t : List Row) (i : ItemId) → Lawful t → is_placed t i ≡ false → Lawful (part i t)
Lawful-part_placed t i l h = Lawful-part t i l (no_parent (parent_of t i) h) where
  no_parent : (o : Option ℕ) → is_some o ≡ false → o ≡ None
  no_parent None e = refl
  no_parent (Some p) e = absurd cc
