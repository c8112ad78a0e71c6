-- What the test for sums says, and what follows for rows that are found.
use Rattle.std.proofs.Common.{◌≡◌, ℕ, ◌≤◌, Bool, true, false, List, [], ◌∷◌, ◌++◌, ap, sym, subst, ◌∙◌, refl, arith, append_assoc, ⊎_elim, ◌⊎◌, inl, inr}
use Rattle.std.specs.Prelude.{◌||◌, if◌then◌else◌, Some, All, is_some, nat_lt}
use Rattle.std.specs.List.{list_any}
use Rattle.std.proofs.lemmas.Bool.{ltb-false, le-ltb}
use Rattle.std.proofs.lemmas.List.Elements.{All-nil, All-cons}
use Rattle.crush_units.specs.declared.id.ItemId.{ItemId}
use Rattle.crush_units.specs.declared.id.ItemId.TheVariants.{Device, Bucket}
use Rattle.crush_units.proofs.Ids.{same_id_tells}
use Rattle.crush_model.specs.Table.{Row, row_of, is_there, sum_below, total}
use Rattle.crush_model.specs.Lawful.{HasParent, Lawful, is_over, is_too_heavy}
use Rattle.crush_model.proofs.Found.{Distinct, row_at}
use Rattle.crush_model.proofs.Climbs.{sum_below-absent}
use Rattle.crush_units.specs.declared.limits.TheConstants.{HEAVIEST_BUCKET, HEAVIEST_MAP}

pub true_or_false : (b : Bool) → (b ≡ true) ⊎ (b ≡ false)
true_or_false true = inl refl
true_or_false false = inr refl

pub or_left : (a b : Bool) → (a || b) ≡ false → a ≡ false
or_left true b h = h
or_left false b h = refl

pub or_right : (a b : Bool) → (a || b) ≡ false → b ≡ false
or_right true b h = absurd cc
or_right false b h = h

-- a bucket of the table passes the test that its row passes
over_found : (t u : List Row) → list_any (λ (r : Row). is_over t r.id) u ≡ false → (b : ℕ) → is_there u (Bucket b) ≡ true → is_over t (Bucket b) ≡ false
over_found t [] h b there = absurd cc
over_found t (r ∷ u) h b there = ⊎_elim
    (λ p. ap (is_over t) (sym p.1) ∙ or_left (is_over t r.id) (list_any (λ (x : Row). is_over t x.id) u) h)
    (λ p. over_found t u (or_right (is_over t r.id) (list_any (λ (x : Row). is_over t x.id) u) h) b (sym (ap (λ z. is_some (if z then Some r else row_of u (Bucket b))) p.0) ∙ there))
    (same_id_tells r.id (Bucket b))

-- if the test for sums passes, then no sum and no total is too large
pub light_sums : (t : List Row) → All (HasParent t) t → is_too_heavy t ≡ false → (b : ℕ) → sum_below t b ≤ HEAVIEST_BUCKET
light_sums t a h b = ⊎_elim
    (λ there. ltb-false HEAVIEST_BUCKET (sum_below t b) (over_found t t (or_left (list_any (λ (r : Row). is_over t r.id) t) (nat_lt HEAVIEST_MAP (total t)) h) b there))
    (λ gone. omega (arith, sum_below-absent t a b gone))
    (true_or_false (is_there t (Bucket b)))

pub light_total : (t : List Row) → is_too_heavy t ≡ false → total t ≤ HEAVIEST_MAP
light_total t h = ltb-false HEAVIEST_MAP (total t) (or_right (list_any (λ (r : Row). is_over t r.id) t) (nat_lt HEAVIEST_MAP (total t)) h)

pub none_over : (t : List Row) → ((b : ℕ) → sum_below t b ≤ HEAVIEST_BUCKET) → (u : List Row) → list_any (λ (r : Row). is_over t r.id) u ≡ false
none_over t h [] = refl
none_over t h (r ∷ u) = ap (λ z. z || list_any (λ (x : Row). is_over t x.id) u) (not_over r.id) ∙ none_over t h u where
  not_over : (i : ItemId) → is_over t i ≡ false
  not_over (Device d) = refl
  not_over (Bucket b) = le-ltb HEAVIEST_BUCKET (sum_below t b) (h b)

-- a lawful table passes the test for sums
pub sums_light : (t : List Row) → ((b : ℕ) → sum_below t b ≤ HEAVIEST_BUCKET) → total t ≤ HEAVIEST_MAP → is_too_heavy t ≡ false
sums_light t h k = ap (λ z. z || nat_lt HEAVIEST_MAP (total t)) (none_over t h t) ∙ le-ltb HEAVIEST_MAP (total t) k

pub lawful_light : (t : List Row) → Lawful t → is_too_heavy t ≡ false
lawful_light t l = sums_light t l.sums l.total

-- each row is the row that is found by its id
found_from : (front u : List Row) → Distinct (front ++ u) → All (λ (r : Row). row_of (front ++ u) r.id ≡ Some r) u
found_from front [] d = All-nil (λ (r : Row). row_of (front ++ []) r.id ≡ Some r)
found_from front (r ∷ u) d =
    let one : List Row = front ++ r ∷ [] in
    let whole : (front ++ r ∷ []) ++ u ≡ front ++ r ∷ u = append_assoc front (r ∷ []) u in
    All-cons (λ (x : Row). row_of (front ++ r ∷ u) x.id ≡ Some x) r u (row_at front r u (d r.id))
    (subst (λ t. All (λ (x : Row). row_of t x.id ≡ Some x) u) whole (found_from (front ++ r ∷ []) u (subst Distinct (sym whole) d)))

pub All-found : (t : List Row) → Distinct t → All (λ (r : Row). row_of t r.id ≡ Some r) t
All-found t d = found_from [] t d

-- if each of two facts is true of all elements, then both are true of all elements
pub All-both : {X : Type 0} (P Q : X → Type 0) (xs : List X) → All P xs → All Q xs → All (λ x. P x × Q x) xs
All-both P Q xs a b = λ k d h. (a k d h, b k d h)
