-- If a table doesn't have a bucket, the table has no items in this bucket.
use Rattle.std.proofs.Common.{◌≡◌, ℕ, true, false, List, [], ◌∷◌, map, ap, sym, subst, ◌∙◌, refl, ⊎_elim}
use Rattle.std.specs.Prelude.{All, IfSome, Option, None, Some, if◌then◌else◌, filter}
use Rattle.std.proofs.lemmas.Bool.Decides.{eqb_tells}
use Rattle.std.proofs.lemmas.List.Elements.{All-head, All-tail}
use Rattle.crush_units.specs.declared.id.ItemId.TheVariants.{Bucket}
use Rattle.crush_model.specs.Forest.{ForestData}
use Rattle.crush_model.specs.Lawful.{HasParent}
use Rattle.crush_model.specs.Stands.{Stands}
use Rattle.crush_model.specs.Table.{Row, kids, is_there, is_parent}

no_rows : (t u : List Row) (b : ℕ) → All (HasParent t) u → is_there t (Bucket b) ≡ false → map (λ (r : Row). r.id) (filter (λ (r : Row). is_parent b r.parent) u) ≡ []
no_rows t [] b parents absent = refl
no_rows t (r ∷ u) b parents absent =
    ap (λ z. map (λ (r : Row). r.id) (if z then r ∷ filter (λ (r : Row). is_parent b r.parent) u else filter (λ (r : Row). is_parent b r.parent) u)) (not_here r.parent (All-head (HasParent t) r u parents))
    ∙ no_rows t u b (All-tail (HasParent t) r u parents) absent where
      not_here : (p : Option ℕ) → IfSome p (λ p. is_there t (Bucket p) ≡ true) → is_parent b p ≡ false
      not_here None there = refl
      not_here (Some p) there = ⊎_elim (λ q. absurd (let here : is_there t (Bucket b) ≡ true = subst (λ i. is_there t (Bucket i) ≡ true) q.1 there in cc)) (λ q. q.0) (eqb_tells p b)

pub no_kids : (f : ForestData) (t : List Row) (b : ℕ) → Stands f t → false ≡ is_there t (Bucket b) → kids t b ≡ []
no_kids f t b stands absent = no_rows t t b stands.lawful.parents (sym absent)
