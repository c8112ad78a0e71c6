-- A part of a table t, as it is while a map is built again from its text: some items of t have been added, and some of these are already placed, which means that they have their row of t; the others are in no bucket.
use Rattle.std.proofs.Common.{◌≡◌, ℕ, zero, suc, ◌≤◌, Bool, true, false, List, length, Option, Some, None, refl, sym, ap, subst, ◌∙◌, arith}
use Rattle.std.proofs.lemmas.List.Elements.{All-map, All-weaker}
use Rattle.std.proofs.lemmas.List.Sums.{sum_by-le-sum_by}
use Rattle.std.specs.Prelude.{IfSome, map, is_some, option_and_then, if◌then◌else◌, bytes_eq}
use Rattle.std.specs.Option.{option_map}
use Rattle.crush_units.specs.declared.limits.TheConstants.{MOST_DEVICES, MOST_BUCKETS}
use Rattle.crush_units.specs.declared.id.ItemId.{ItemId}
use Rattle.crush_units.specs.declared.id.ItemId.TheVariants.{Device, Bucket}
use Rattle.crush_model.specs.Table.{Row, is_device, is_device_id, is_bucket, row_of, is_there, parent_of, then_up, climb, above, is_below, sum_below, summed_weight}
use Rattle.crush_model.specs.Lawful.{Lawful, IsRow, IsRowOf, HasParent}
use Rattle.crush_model.proofs.Reorder.{sum_by-map}
use Rattle.crush_model.proofs.Same.{uses}
use Rattle.crush_model.proofs.Kept.{length_map, row_of-map, is_there-map, Distinct-map}
use Rattle.crush_model.proofs.Columns.{count-map, times_used-map}
use Rattle.crush_model.proofs.Climbs.{times_in, member-times_in, times_in-member}
use Rattle.crush_model.proofs.Removed.{only, row_of-only, Lawful-only}
use Rattle.crush_model.proofs.Moved.{row_id}

-- a row without its place: in no bucket, and with the weight 0
abbrev pub bare : Row → Row
bare r = record r { parent = None; weight = 0 }

-- the row itself if its item is placed (P), otherwise the row without its place
abbrev pub shown : (ItemId → Bool) → Row → Row
shown P r = if P r.id then r else bare r

-- the part of t that has the items for which q is true; of these, the items for which P is true are placed
abbrev pub part_of : (ItemId → Bool) → (ItemId → Bool) → List Row → List Row
part_of q P t = only q (map (shown P) t)

id_by : (b : Bool) (r : Row) → (if b then r else bare r).id ≡ r.id
id_by true r = refl
id_by false r = refl

pub shown-id : (P : ItemId → Bool) (r : Row) → (shown P r).id ≡ r.id
shown-id P r = id_by (P r.id) r

name_by : (b : Bool) (r : Row) → (if b then r else bare r).name ≡ r.name
name_by true r = refl
name_by false r = refl

uses_by : (b : Bool) (r : Row) → uses (if b then r else bare r) ≡ uses r
uses_by true r = refl
uses_by false r = refl

parent_by : (b : Bool) (r : Row) → (if b then r else bare r).parent ≡ (if b then r.parent else None)
parent_by true r = refl
parent_by false r = refl

none_by : (b : Bool) → ◌≡◌ {A = Option ℕ} None (if b then None else None)
none_by true = refl
none_by false = refl

zero_by : (b : Bool) → ◌≡◌ {A = ℕ} (if b then 0 else 0) 0
zero_by true = refl
zero_by false = refl

light_by : (b : Bool) (r : Row) → summed_weight (if b then r else bare r) ≤ summed_weight r
light_by true r = omega arith
light_by false r = omega (arith, zero_by (is_device r))

total_by : (b : Bool) (r : Row) → (if is_some (if b then r else bare r).parent then summed_weight (if b then r else bare r) else 0) ≤ (if is_some r.parent then summed_weight r else 0)
total_by true r = omega arith
total_by false r = omega arith

-- a row without its place still has the form of a row of its item
bare_form : (i : ItemId) (r : Row) → IsRowOf i r → IsRowOf i (bare r)
bare_form (Device d) r f = record { id = f.id; kind = f.kind; light = omega arith; unplaced = λ e. refl; alg = f.alg; class_ids = f.class_ids; class = f.class }
bare_form (Bucket b) r f = record { some = f.some; most = f.most; kind_some = f.kind_some; kind_most = f.kind_most; weight = refl; class = f.class; alg = f.alg; class_ids = f.class_ids; few = f.few; classes = f.classes }

row_by : (b : Bool) (r : Row) → IsRow r → IsRow (if b then r else bare r)
row_by true r h = h
row_by false r h = record { name = h.name; form = bare_form r.id r h.form }

-- climbing from an item meets no bucket more often than before
climb_if : (c : Bool) (o : Option ℕ) (j : ItemId) (f g : ℕ → List ℕ) → ((p : ℕ) → times_in j (f p) ≤ times_in j (g p)) → times_in j (then_up (if c then o else None) f) ≤ times_in j (then_up o g)
climb_if false o j f g h = omega arith
climb_if true None j f g h = omega arith
climb_if true (Some p) j f g h = omega (arith, h p)

weighs_less : (x y : Bool) (v w : ℕ) → (y ≡ false → x ≡ false) → v ≤ w → (if x then v else 0) ≤ (if y then w else 0)
weighs_less true true v w h le = le
weighs_less false true v w h le = omega arith
weighs_less true false v w h le = absurd (let no : true ≡ false = h refl in cc)
weighs_less false false v w h le = omega arith

there_by : (b : Bool) (u : List Row) (r : Row) → IfSome r.parent (λ p. is_there u (Bucket p) ≡ true) → IfSome (if b then r else bare r).parent (λ p. is_there u (Bucket p) ≡ true)
there_by true u r h = h
there_by false u r h = tt

-- if an item still has a parent, then the item is placed
left_by : (b : Bool) (o : Option ℕ) (p : ℕ) → (if b then o else None) ≡ Some p → (b ≡ true) × (o ≡ Some p)
left_by true o p e = (refl, e)
left_by false o p e = absurd (let no : ◌≡◌ {A = Option ℕ} None (Some p) = e in cc)

module _ (P : ItemId → Bool) (t : List Row) (l : Lawful t) where
  pub parent_shown : (i : ItemId) → parent_of (map (shown P) t) i ≡ (if P i then parent_of t i else None)
  parent_shown i = ap (option_and_then (λ (r : Row). r.parent)) (row_of-map (shown P) (shown-id P) t i) ∙ by_row (row_of t i) refl
    where
      by_row : (o : Option Row) → row_of t i ≡ o → option_and_then (λ (r : Row). r.parent) (option_map (shown P) o) ≡ (if P i then option_and_then (λ (r : Row). r.parent) o else None)
      by_row None e = none_by (P i)
      by_row (Some r) e = parent_by (P r.id) r ∙ ap (λ j. if P j then r.parent else None) (row_id i t r e)

  climb_shown : (j : ItemId) (m : ℕ) (i : ItemId) → times_in j (climb (map (shown P) t) m i) ≤ times_in j (climb t m i)
  climb_shown j zero i = omega arith
  climb_shown j (suc m) i =
      subst (λ o. times_in j (then_up o (λ p. climb (map (shown P) t) m (Bucket p))) ≤ times_in j (climb t (suc m) i)) (sym (parent_shown i))
      (climb_if (P i) (parent_of t i) j (λ p. climb (map (shown P) t) m (Bucket p)) (λ p. climb t m (Bucket p)) (λ p. climb_shown j m (Bucket p)))

  above_shown : (j i : ItemId) → times_in j (above (map (shown P) t) i) ≤ times_in j (above t i)
  above_shown j i = subst (λ n. times_in j (climb (map (shown P) t) n i) ≤ times_in j (above t i)) (sym (length_map (shown P) t)) (climb_shown j (length t) i)

  pub not_below_shown : (b : ℕ) (i : ItemId) → is_below t b i ≡ false → is_below (map (shown P) t) b i ≡ false
  not_below_shown b i h = times_in-member b (above (map (shown P) t) i) (omega (arith, above_shown (Bucket b) i, member-times_in b (above t i) h))

  sum_below_shown : (b : ℕ) → sum_below (map (shown P) t) b ≤ sum_below t b
  sum_below_shown b = omega (
    arith,
    sum_by-map (λ (r : Row). if is_below (map (shown P) t) b r.id then summed_weight r else 0) (shown P) t,
    sum_by-le-sum_by (λ (r : Row). if is_below (map (shown P) t) b (shown P r).id then summed_weight (shown P r) else 0) (λ (r : Row). if is_below t b r.id then summed_weight r else 0) t
        (λ r. weighs_less (is_below (map (shown P) t) b (shown P r).id) (is_below t b r.id) (summed_weight (shown P r)) (summed_weight r) (λ h. ap (is_below (map (shown P) t) b) (shown-id P r) ∙ not_below_shown b r.id h) (light_by (P r.id) r)),
  )

  pub Lawful-shown : Lawful (map (shown P) t)
  Lawful-shown = record {
    ids = Distinct-map (shown P) (shown-id P) t l.ids;
    names = λ n. subst (λ k. k ≤ 1) (sym (count-map (shown P) (λ (r : Row). bytes_eq r.name n) (λ r. ap (λ m. bytes_eq m n) (name_by (P r.id) r)) t)) (l.names n);
    used = λ k. subst (λ n. n ≤ 1) (sym (times_used-map (shown P) (λ r. uses_by (P r.id) r) k t)) (l.used k);
    rows = All-map IsRow (shown P) t (All-weaker IsRow (λ (r : Row). IsRow (shown P r)) (λ r. row_by (P r.id) r) t l.rows);
    parents = All-map (HasParent (map (shown P) t)) (shown P) t (All-weaker (HasParent t) (λ (r : Row). HasParent (map (shown P) t) (shown P r)) (λ r h. there_by (P r.id) (map (shown P) t) r (still r.parent h)) t l.parents);
    loops = λ b. not_below_shown b (Bucket b) (l.loops b);
    sums = λ b. omega (arith, l.sums b, sum_below_shown b);
    total = omega (
      arith,
      l.total,
      sum_by-map (λ (r : Row). if is_some r.parent then summed_weight r else 0) (shown P) t,
      sum_by-le-sum_by (λ (r : Row). if is_some (shown P r).parent then summed_weight (shown P r) else 0) (λ (r : Row). if is_some r.parent then summed_weight r else 0) t (λ r. total_by (P r.id) r),
    );
    devices = subst (λ n. n ≤ MOST_DEVICES) (sym (count-map (shown P) is_device (λ r. ap is_device_id (shown-id P r)) t)) l.devices;
    buckets = subst (λ n. n ≤ MOST_BUCKETS) (sym (count-map (shown P) is_bucket (λ r. ap (λ i. is_bucket (record r { id = i })) (shown-id P r)) t)) l.buckets;
  } where
    still : (o : Option ℕ) → IfSome o (λ p. is_there t (Bucket p) ≡ true) → IfSome o (λ p. is_there (map (shown P) t) (Bucket p) ≡ true)
    still None h = h
    still (Some p) h = is_there-map (shown P) (shown-id P) t (Bucket p) ∙ h

  -- A PART IS LAWFUL if the bucket of each placed item is in the part
  pub Lawful-part : (q : ItemId → Bool) → ((i : ItemId) (p : ℕ) → q i ≡ true → P i ≡ true → parent_of t i ≡ Some p → q (Bucket p) ≡ true) → Lawful (part_of q P t)
  Lawful-part q closed = Lawful-only q (map (shown P) t) (λ i p h e. let k = left_by (P i) (parent_of t i) p (sym (parent_shown i) ∙ e) in closed i p h k.0 k.1) Lawful-shown

  -- the row of an item in the part
  pub row_of-part : (q : ItemId → Bool) (i : ItemId) → row_of (part_of q P t) i ≡ (if q i then option_map (shown P) (row_of t i) else None)
  row_of-part q i = row_of-only q (map (shown P) t) i ∙ ap (λ o. if q i then o else None) (row_of-map (shown P) (shown-id P) t i)
