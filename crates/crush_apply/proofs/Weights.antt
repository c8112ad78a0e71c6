-- What the edits that set weights give for the table, for each outcome of the tests in the code.
use Rattle.std.proofs.Common.{◌≡◌, ℕ, ◌≤◌, List, [], ◌∷◌, true, false, not, Bool, refl, sym, ap, ◌∙◌, nat_eq}
use Rattle.std.specs.Prelude.{Option, Some, None, is_some, option_and_then, if◌then◌else◌, ◌==◌, ◌&&◌, ◌||◌}
use Rattle.std.specs.List.{list_all, list_any}
use Rattle.std.specs.Option.{option_map, option_eq}
use Rattle.crush_units.specs.declared.id.ItemId.{ItemId}
use Rattle.crush_units.specs.declared.id.ItemId.TheVariants.{Device}
use Rattle.crush_model.specs.Table.{Row, is_device, is_below, row_of, own_weight_of, weight_of, is_placed, item_weight}
use Rattle.crush_model.specs.Columns.{set_weight, set_subtree}
use Rattle.crush_model.specs.Lawful.{is_too_heavy}
use Rattle.crush_edits.specs.Setting.{SettingData}
use Rattle.crush_model.proofs.Found.{times}
use Rattle.crush_edits.specs.declared.refusal.Refusal.{Refusal}
use Rattle.crush_edits.specs.declared.refusal.Refusal.TheVariants.{SumTooLarge}
use Rattle.crush_edits.specs.declared.edit.Edit.{Edit}
use Rattle.crush_edits.specs.declared.edit.Edit.TheVariants.{Reweight, ReweightSubtree}
use Rattle.crush_edits.specs.Changed.{same_table}
use Rattle.crush_edits.specs.Answer.{done, answer, refused}
use Rattle.crush_edits.specs.Edit.{after, edit, refusal}
use Rattle.crush_apply.specs.Weighed.{CanReweight, CanReweightSubtree}
use Rattle.crush_edits.proofs.Changes.{same_weight, same_weights}

-- the result of the test of sums, negated
pub fitting : (b : Bool) → true ≡ not b → b ≡ false
fitting true e = absurd cc
fitting false e = refl

pub too_heavy : (b : Bool) → false ≡ not b → b ≡ true
too_heavy true e = refl
too_heavy false e = absurd cc

-- only SumTooLarge is still possible
pub reweight_refusal : (s : SettingData) (t : List Row) (n : List ℕ) (w d : ℕ) → CanReweight t n w d → (b : Bool) → is_too_heavy (set_weight (Device d) w t) ≡ b → refusal s t (Reweight n w) ≡ (if b then Some SumTooLarge else None)
reweight_refusal s t n w d c b heavy = rw (c.light, c.named, c.placed, heavy) refl

-- what Reweight gives if it isn't refused
reweight_done : (s : SettingData) (t : List Row) (n : List ℕ) (w d : ℕ) → CanReweight t n w d → is_too_heavy (set_weight (Device d) w t) ≡ false →
    let u = set_weight (Device d) w t in edit s t (Reweight n w) ≡ done (not (same_table t u)) 0 u
reweight_done s t n w d c fits = ap (λ r. answer r t (after s t (Reweight n w))) (reweight_refusal s t n w d c false fits) ∙ rw c.named refl

-- if an edit has a refusal, that is what the edit gives
pub refused_edit : (s : SettingData) (t : List Row) (e : Edit) (r : Refusal) → refusal s t e ≡ Some r → edit s t e ≡ refused r
refused_edit s t e r h = ap (λ o. answer o t (after s t e)) h

parent_has_weight : (o : Option Row) → is_some (option_and_then (λ (r : Row). r.parent) o) ≡ true → (v : ℕ) × option_map (λ (r : Row). r.weight) o ≡ Some v
parent_has_weight None h = absurd (let e : false ≡ true = h in cc)
parent_has_weight (Some r) h = (r.weight, refl)

-- an item that is in a bucket has a weight
pub weight_there : (t : List Row) (i : ItemId) → is_placed t i ≡ true → (v : ℕ) × own_weight_of t i ≡ Some v
weight_there t i h = parent_has_weight (row_of t i) h

-- the table stays the same if and only if the old weight is the new one
pub weight_stays : (t : List Row) (w d v : ℕ) → is_placed t (Device d) ≡ true → times (Device d) t ≤ 1 → weight_of t (Device d) ≡ Some v → same_table t (set_weight (Device d) w t) ≡ nat_eq v w
weight_stays t w d v placed once is =
    let own = weight_there t (Device d) placed in
    same_weight (Device d) w own.0 t once own.1 ∙ ap (λ z. option_eq nat_eq z (Some w)) (sym (ap (option_map (item_weight t (Device d))) own.1) ∙ is)

-- what Reweight gives, with whether the table has changed
pub reweight_made : (s : SettingData) (t : List Row) (n : List ℕ) (w d v : ℕ) → CanReweight t n w d → is_too_heavy (set_weight (Device d) w t) ≡ false → times (Device d) t ≤ 1 → weight_of t (Device d) ≡ Some v → edit s t (Reweight n w) ≡ done (not (nat_eq v w)) 0 (set_weight (Device d) w t)
reweight_made s t n w d v c fits once is = reweight_done s t n w d c fits ∙ ap (λ b. done (not b) 0 (set_weight (Device d) w t)) (weight_stays t w d v c.placed once is)

-- THE SUBTREE
-- only SumTooLarge is still possible
pub subtree_refusal : (s : SettingData) (t : List Row) (n : List ℕ) (w b : ℕ) → CanReweightSubtree t n w b → (x : Bool) → is_too_heavy (set_subtree b w t) ≡ x → refusal s t (ReweightSubtree n w) ≡ (if x then Some SumTooLarge else None)
subtree_refusal s t n w b c x heavy = rw (c.light, c.named, heavy) refl

-- what ReweightSubtree gives if it isn't refused
reweight_subtree_done : (s : SettingData) (t : List Row) (n : List ℕ) (w b : ℕ) → CanReweightSubtree t n w b → is_too_heavy (set_subtree b w t) ≡ false →
    let u = set_subtree b w t in edit s t (ReweightSubtree n w) ≡ done (not (same_table t u)) 0 u
reweight_subtree_done s t n w b c fits = ap (λ r. answer r t (after s t (ReweightSubtree n w))) (subtree_refusal s t n w b c false fits) ∙ rw c.named refl

not_or_not : (a b : Bool) (x y : Bool) → x ≡ not y → ((not a || b) && x) ≡ not ((a && not b) || y)
not_or_not true true x y h = h
not_or_not true false x y h = refl
not_or_not false b x y h = h

-- all selected rows have the weight if and only if none of them has another
all_have : (which : Row → Bool) (w : ℕ) (t : List Row) → list_all (λ (r : Row). not (which r) || (r.weight == w)) t ≡ not (list_any (λ (r : Row). which r && not (r.weight == w)) t)
all_have which w [] = refl
all_have which w (r ∷ t) = not_or_not (which r) (r.weight == w) _ _ (all_have which w t)

-- the table stays the same if and only if no device below the bucket has another weight
subtree_stays : (t : List Row) (w b : ℕ) (x : Bool) → x ≡ list_any (λ (r : Row). (is_device r && is_below t b r.id) && not (r.weight == w)) t → same_table t (set_subtree b w t) ≡ not x
subtree_stays t w b x h = same_weights (λ (r : Row). is_device r && is_below t b r.id) w t ∙ all_have (λ (r : Row). is_device r && is_below t b r.id) w t ∙ ap not (sym h)

not_not : (x : Bool) → not (not x) ≡ x
not_not true = refl
not_not false = refl

-- what ReweightSubtree gives if sums are in range
pub subtree_done : (s : SettingData) (t : List Row) (n : List ℕ) (w b : ℕ) → CanReweightSubtree t n w b → is_too_heavy (set_subtree b w t) ≡ false
    → (x : Bool) → x ≡ list_any (λ (r : Row). (is_device r && is_below t b r.id) && not (r.weight == w)) t → edit s t (ReweightSubtree n w) ≡ done x 0 (set_subtree b w t)
subtree_done s t n w b c fits x h = reweight_subtree_done s t n w b c fits ∙ ap (λ z. done z 0 (set_subtree b w t)) (ap not (subtree_stays t w b x h) ∙ not_not x)
