-- A table stays lawful if a column other than id and parent changes.
use Rattle.std.proofs.Common.{◌≡◌, ℕ, zero, suc, ◌≤◌, Bool, true, false, List, length, ap, sym, subst, ◌∙◌, refl, ⊎_elim}
use Rattle.std.specs.Prelude.{◌==◌, ◌&&◌, not, if◌then◌else◌, Option, Some, None, IfSome, All, map, is_some, option_and_then, bytes_eq}
use Rattle.std.specs.List.{sum_by, count_by}
use Rattle.std.proofs.lemmas.List.Elements.{All-weaker, All-map}
use Rattle.crush_units.specs.declared.id.ItemId.{ItemId}
use Rattle.crush_units.specs.declared.id.ItemId.TheVariants.{Device, Bucket}
use Rattle.crush_units.specs.Id.{same_id}
use Rattle.crush_units.proofs.Ids.{same_id_tells}
use Rattle.crush_model.specs.Table.{Row, is_device, is_device_id, is_bucket, row_of, is_there, is_placed, parent_of, then_up, climb, member, is_below}
use Rattle.crush_model.specs.Lawful.{IsRow, IsRowOf, HasParent, Lawful, is_too_heavy}
use Rattle.crush_model.specs.Columns.{set_weights, set_weight, set_subtree}
use Rattle.crush_model.proofs.Forms.{device_form}
use Rattle.crush_model.proofs.Reorder.{one_if, sum_by-map}
use Rattle.crush_model.proofs.Same.{uses, times_used, times_used-rows}
use Rattle.crush_model.proofs.Kept.{is_there-map, Distinct-map, is_below-map}
use Rattle.crush_model.proofs.Changes.{with_weight, with_weight-id, with_weight-parent}
use Rattle.crush_model.proofs.Weighs.{light_sums, light_total, All-found, All-both}
use Rattle.crush_units.specs.declared.limits.TheConstants.{HEAVIEST_DEVICE, MOST_BUCKETS, MOST_DEVICES}

-- the counts and the used ids of changed rows
module _ (f : Row → Row) where
  pub count-map : (p : Row → Bool) → ((r : Row) → p (f r) ≡ p r) → (t : List Row) → count_by p (map f t) ≡ count_by p t
  count-map p h t = let same : (λ (r : Row). p (f r)) ≡ p = λ k r. h r k in sum_by-map (λ (r : Row). one_if (p r)) f t ∙ ap (λ q. count_by q t) same

  pub times_used-map : ((r : Row) → uses (f r) ≡ uses r) → (k : ℕ) (t : List Row) → times_used k (map f t) ≡ times_used k t
  times_used-map h k t =
      let same : (λ (r : Row). count_by (λ u. u == k) (uses (f r))) ≡ (λ (r : Row). count_by (λ u. u == k) (uses r)) = λ i r. count_by (λ u. u == k) (h r i) in
      times_used-rows k (map f t) ∙ sum_by-map (λ (r : Row). count_by (λ u. u == k) (uses r)) f t ∙ ap (λ g. sum_by g t) same ∙ sym (times_used-rows k t)

-- a change of weights and names
pub Lawful-columns : (f : Row → Row) → ((r : Row) → (f r).id ≡ r.id) → ((r : Row) → (f r).parent ≡ r.parent) → ((r : Row) → uses (f r) ≡ uses r)
    → (t : List Row) → Lawful t → ((n : List ℕ) → count_by (λ (r : Row). bytes_eq r.name n) (map f t) ≤ 1) → All (λ (r : Row). IsRow (f r)) t → is_too_heavy (map f t) ≡ false → Lawful (map f t)
Lawful-columns f ids parents used t l names rows light =
    let there : (r : Row) → HasParent t r → HasParent (map f t) (f r) = λ r h. subst (λ o. IfSome o (λ p. is_there (map f t) (Bucket p) ≡ true)) (sym (parents r)) (still r.parent h) in
    let all_there : All (HasParent (map f t)) (map f t) = All-map (HasParent (map f t)) f t (All-weaker (HasParent t) (λ (r : Row). HasParent (map f t) (f r)) there t l.parents) in
    record {
      ids = Distinct-map f ids t l.ids;
      names = names;
      used = λ k. subst (λ n. n ≤ 1) (sym (times_used-map f used k t)) (l.used k);
      rows = All-map IsRow f t rows;
      parents = all_there;
      loops = λ b. is_below-map f ids parents t b (Bucket b) ∙ l.loops b;
      sums = light_sums (map f t) all_there light;
      total = light_total (map f t) light;
      devices = subst (λ n. n ≤ MOST_DEVICES) (sym (count-map f is_device (λ r. ap is_device_id (ids r)) t)) l.devices;
      buckets = subst (λ n. n ≤ MOST_BUCKETS) (sym (count-map f is_bucket (λ r. ap (λ i. not (is_device_id i)) (ids r)) t)) l.buckets;
    } where
      still : (o : Option ℕ) → IfSome o (λ p. is_there t (Bucket p) ≡ true) → IfSome o (λ p. is_there (map f t) (Bucket p) ≡ true)
      still None h = h
      still (Some p) h = is_there-map f ids t (Bucket p) ∙ h

weight_name : (b : Bool) (w : ℕ) (r : Row) → (if b then record r { weight = w } else r).name ≡ r.name
weight_name true w r = refl
weight_name false w r = refl

weight_uses : (b : Bool) (w : ℕ) (r : Row) → uses (if b then record r { weight = w } else r) ≡ uses r
weight_uses true w r = refl
weight_uses false w r = refl

-- a row that stays well-formed with the new weight: the row of a placed device
abbrev pub CanWeigh : Row → Type 0
CanWeigh r = (is_device r ≡ true) × (is_some r.parent ≡ true)

weighed_form : (i : ItemId) (w : ℕ) (r : Row) → is_device_id i ≡ true → is_some r.parent ≡ true → w ≤ HEAVIEST_DEVICE → IsRowOf i r → IsRowOf i (record r { weight = w })
weighed_form (Bucket b) w r dev placed h form = absurd cc
weighed_form (Device d) w r dev placed h form = device_form d r.name r.parent w r h (λ e. absurd (let some : is_some r.parent ≡ false = ap is_some e in cc)) form

weighed_row : (b : Bool) (w : ℕ) (r : Row) → (b ≡ true → CanWeigh r) → w ≤ HEAVIEST_DEVICE → IsRow r → IsRow (if b then record r { weight = w } else r)
weighed_row true w r can h row = record { name = row.name; form = weighed_form r.id w r (can refl).0 (can refl).1 h row.form }
weighed_row false w r can h row = row

-- the law for new weights of placed devices
pub Lawful-set_weights : (which : Row → Bool) (w : ℕ) (t : List Row) → Lawful t → All (λ (r : Row). which r ≡ true → CanWeigh r) t → w ≤ HEAVIEST_DEVICE → is_too_heavy (set_weights which w t) ≡ false → Lawful (set_weights which w t)
Lawful-set_weights which w t l can h light =
    Lawful-columns (with_weight which w) (with_weight-id which w) (with_weight-parent which w) (λ r. weight_uses (which r) w r) t l
    (λ n. subst (λ c. c ≤ 1) (sym (count-map (with_weight which w) (λ (r : Row). bytes_eq r.name n) (λ r. ap (λ m. bytes_eq m n) (weight_name (which r) w r)) t)) (l.names n))
    (All-weaker (λ (r : Row). (which r ≡ true → CanWeigh r) × IsRow r) (λ (r : Row). IsRow (with_weight which w r)) (λ r p. weighed_row (which r) w r p.0 h p.1) t (All-both (λ (r : Row). which r ≡ true → CanWeigh r) IsRow t can l.rows))
    light

-- the law for a new weight of one placed device
pub Lawful-set_weight : (t : List Row) (d w : ℕ) → Lawful t → is_placed t (Device d) ≡ true → w ≤ HEAVIEST_DEVICE → is_too_heavy (set_weight (Device d) w t) ≡ false → Lawful (set_weight (Device d) w t)
Lawful-set_weight t d w l placed h light =
    Lawful-set_weights (λ (r : Row). same_id r.id (Device d)) w t l
    (All-weaker (λ (r : Row). row_of t r.id ≡ Some r) (λ (r : Row). same_id r.id (Device d) ≡ true → CanWeigh r) can t (All-found t l.ids)) h light where
      can : (r : Row) → row_of t r.id ≡ Some r → same_id r.id (Device d) ≡ true → CanWeigh r
      can r found same = ⊎_elim
          (λ p. (ap is_device_id p.1, sym (ap (λ o. is_some (option_and_then (λ (x : Row). x.parent) o)) (sym (ap (row_of t) p.1) ∙ found)) ∙ placed))
          (λ p. absurd (let no_more : same_id r.id (Device d) ≡ false = p.0 in cc))
          (same_id_tells r.id (Device d))

-- a device below a bucket is placed
below_placed : (t : List Row) (b : ℕ) (r : Row) → row_of t r.id ≡ Some r → is_below t b r.id ≡ true → is_some r.parent ≡ true
below_placed t b r found h = climbed (length t) h where
  by_parent : (n : ℕ) (o : Option ℕ) → member b (then_up o (λ p. climb t n (Bucket p))) ≡ true → is_some o ≡ true
  by_parent n None h = absurd cc
  by_parent n (Some p) h = refl

  climbed : (n : ℕ) → member b (climb t n r.id) ≡ true → is_some r.parent ≡ true
  climbed zero h = absurd cc
  climbed (suc n) h = sym (ap (λ o. is_some (option_and_then (λ (x : Row). x.parent) o)) found) ∙ by_parent n (parent_of t r.id) h

-- the law for a new weight of each device below a bucket
pub Lawful-set_subtree : (t : List Row) (b w : ℕ) → Lawful t → w ≤ HEAVIEST_DEVICE → is_too_heavy (set_subtree b w t) ≡ false → Lawful (set_subtree b w t)
Lawful-set_subtree t b w l h light =
    Lawful-set_weights (λ (r : Row). is_device r && is_below t b r.id) w t l
    (All-weaker (λ (r : Row). row_of t r.id ≡ Some r) (λ (r : Row). (is_device r && is_below t b r.id) ≡ true → CanWeigh r) (λ r found both. (left_true (is_device r) (is_below t b r.id) both, below_placed t b r found (right_true (is_device r) (is_below t b r.id) both))) t (All-found t l.ids)) h light where
      left_true : (x y : Bool) → (x && y) ≡ true → x ≡ true
      left_true true y e = refl
      left_true false y e = absurd cc

      right_true : (x y : Bool) → (x && y) ≡ true → y ≡ true
      right_true true y e = e
      right_true false y e = absurd cc
