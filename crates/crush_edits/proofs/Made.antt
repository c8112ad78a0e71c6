-- An edit creates as many buckets as it reports.
use Rattle.std.proofs.Common.{◌≡◌, ℕ, ◌+◌, Bool, true, false, List, refl, ap, sym, ◌∙◌, arith, ⊎_elim}
use Rattle.std.specs.Prelude.{not, if◌then◌else◌, Option, Some, None}
use Rattle.std.specs.Option.{option_map}
use Rattle.crush_units.specs.declared.id.ItemId.{ItemId}
use Rattle.crush_units.specs.declared.id.ItemId.TheVariants.{Device, Bucket}
use Rattle.crush_units.specs.Id.{same_id}
use Rattle.crush_model.specs.Table.{Row, is_device_id, is_bucket, row_of, id_named, is_there, bucket_count}
use Rattle.crush_model.specs.Columns.{set_weights, set_weight, set_subtree, set_name, set_class, exchange_id, exchange_names, swap_buckets}
use Rattle.crush_model.proofs.Changes.{with_name-id}
use Rattle.crush_model.proofs.Classes.{with_class, with_class-id}
use Rattle.crush_model.proofs.Columns.{count-map}
use Rattle.crush_model.proofs.Moved.{row_id}
use Rattle.crush_model.proofs.Weighs.{true_or_false}
use Rattle.crush_edits.specs.declared.edit.Edit.TheVariants.{Place, Move, Swap, Reweight, ReweightSubtree, Remove, AddBucket, Rename, SetClass, RemoveClass}
use Rattle.crush_edits.specs.declared.edit.Placing.TheVariants.{Insert, CreateOrMove, Update}
use Rattle.crush_edits.specs.declared.location.Pair.{Pair}
use Rattle.crush_edits.specs.declared.refusal.Refusal.TheVariants.{BadName, BadLocation, NoSuchType, NoPlace, NameTaken, NotABucket}
use Rattle.crush_edits.specs.Stops.{stops, end_id, bucket_named}
use Rattle.crush_edits.specs.Put.{put, held}
use Rattle.crush_edits.specs.New.{IsRoute}
use Rattle.crush_edits.specs.Answer.{After, kept, on_some}
use Rattle.crush_edits.specs.Placing.{put_after, edited_leaf, edited_device, kept_weight, move_item}
use Rattle.crush_edits.specs.Setting.{SettingData}
use Rattle.crush_edits.specs.LawEdit.{MadeAreBuckets, Keeps}
use Rattle.crush_edits.proofs.Edits.{no_device_ends, some_row, there_named, route}
use Rattle.crush_edits.proofs.Order.{edit_passed}
use Rattle.crush_edits.proofs.Others.{weight_id, added_counts}
use Rattle.crush_edits.proofs.PutLaws.{counts_put, counts_new}
use Rattle.crush_edits.proofs.Stops.{location_route}
use Rattle.crush_edits.proofs.Tails.{edited_is_own}

-- changing columns other than the id leaves the number of buckets as it is
weights_count : (which : Row → Bool) (w : ℕ) (t : List Row) → bucket_count (set_weights which w t) ≡ bucket_count t
weights_count which w t = count-map (λ (r : Row). if which r then record r { weight = w } else r) is_bucket (λ r. ap (λ i. not (is_device_id i)) (weight_id (which r) w r)) t

name_count : (i : ItemId) (n : List ℕ) (t : List Row) → bucket_count (set_name i n t) ≡ bucket_count t
name_count i n t = count-map (λ (r : Row). if same_id r.id i then record r { name = n } else r) is_bucket (λ r. ap (λ j. not (is_device_id j)) (with_name-id i n r)) t

class_count : (i : ItemId) (c : Option (List ℕ)) (t : List Row) → bucket_count (set_class i c t) ≡ bucket_count t
class_count i c t = count-map (with_class i c) is_bucket (λ r. ap (λ j. not (is_device_id j)) (with_class-id i c r)) t

swap_count : (a b : ℕ) (t : List Row) → bucket_count (swap_buckets a b t) ≡ bucket_count t
swap_count a b t = count-map (λ (r : Row). record r { parent = option_map (exchange_id a b) r.parent }) is_bucket (λ r. refl) (exchange_names a b t) ∙ name_count (Bucket a) _ (set_name (Bucket b) _ t) ∙ name_count (Bucket b) _ t

no_more : (n m : ℕ) → n ≡ m → n ≡ m + 0
no_more n m e = omega (arith, e)

abbrev Makes : List Row → After → Type 0
Makes t a = bucket_count a.table ≡ bucket_count t + a.made

some_makes : {X : Type 0} (t : List Row) (o : Option X) (f : X → After) → ((x : X) → Makes t (f x)) → Makes t (on_some t o f)
some_makes t None f h = no_more (bucket_count t) (bucket_count t) refl
some_makes t (Some x) f h = h x

module _ (s : SettingData) (t : List Row) (k : Keeps s t) (l : List Pair) (r : IsRoute t (stops s l)) where
  device_makes : (d : ℕ) (n : List ℕ) (w : ℕ) → ((x : Row) → row_of t (Device d) ≡ Some x → x.name ≡ n) → Makes t (put_after t (edited_device t d n w) (stops s l))
  device_makes d n w named = ⊎_elim there_already not_there (true_or_false (is_there t (Device d))) where
    not_there : is_there t (Device d) ≡ false → Makes t (put_after t (edited_device t d n w) (stops s l))
    not_there gone = (counts_new t (stops s l) k.lawful r (edited_leaf t d n w) gone).1

    there_already : is_there t (Device d) ≡ true → Makes t (put_after t (edited_device t d n w) (stops s l))
    there_already there =
        let found = some_row t (Device d) there in
        let is : found.0.id ≡ Device d = row_id (Device d) t found.0 found.1 in
        let same : edited_device t d n w ≡ record found.0 { parent = None; weight = w } = ap (λ m. edited_device t d m w) (sym (named found.0 found.1)) ∙ edited_is_own t d w found.0 k.lawful found.1 in
        ap (λ x. bucket_count (put t x (stops s l))) same ∙ (counts_put t (stops s l) k.lawful r found.0 w (ap (row_of t) is ∙ found.1)).1

  held_makes : (b : Bool) (u : List Row) (a : After) → bucket_count u ≡ bucket_count t → Makes t a → Makes t (if b then kept u else a)
  held_makes true u a same h = no_more (bucket_count u) (bucket_count t) same
  held_makes false u a same h = h

  move_makes : (i : ItemId) → Makes t (move_item s t l i)
  move_makes i = held_makes (held t i (stops s l)) t (on_some t (row_of t i) (λ x. put_after t x (stops s l))) refl (by_row (row_of t i) refl) where
    by_row : (o : Option Row) → row_of t i ≡ o → Makes t (on_some t o (λ x. put_after t x (stops s l)))
    by_row None e = no_more (bucket_count t) (bucket_count t) refl
    by_row (Some x) e = (counts_put t (stops s l) k.lawful r x x.weight (ap (row_of t) (row_id i t x e) ∙ e)).1

-- THE LAW
pub made_are_buckets : MadeAreBuckets
made_are_buckets s t (Place Insert d n w l) k form told other =
    let h = edit_passed s t (Place Insert d n w l) told in
    device_makes s t k l (route s t k d n l form (h BadName) (h BadLocation) (h NoSuchType) (h NoPlace) (h NameTaken) (h NotABucket)) d n w (there_named s t k d n l form (h BadName) (h BadLocation) (h NoSuchType) (h NoPlace) (h NameTaken) (h NotABucket))
made_are_buckets s t (Place CreateOrMove d n w l) k form told other =
    let h = edit_passed s t (Place CreateOrMove d n w l) told in
    let r = route s t k d n l form (h BadName) (h BadLocation) (h NoSuchType) (h NoPlace) (h NameTaken) (h NotABucket) in
    held_makes s t k l r (held t (Device d) (stops s l)) t (put_after t (edited_device t d n (kept_weight t d w)) (stops s l)) refl
    (device_makes s t k l r d n (kept_weight t d w) (there_named s t k d n l form (h BadName) (h BadLocation) (h NoSuchType) (h NoPlace) (h NameTaken) (h NotABucket)))
made_are_buckets s t (Place Update d n w l) k form told other =
    let h = edit_passed s t (Place Update d n w l) told in
    let r = route s t k d n l form (h BadName) (h BadLocation) (h NoSuchType) (h NoPlace) (h NameTaken) (h NotABucket) in
    held_makes s t k l r (held t (Device d) (stops s l)) (set_weight (Device d) w t) (put_after t (edited_device t d n w) (stops s l)) (weights_count (λ (x : Row). same_id x.id (Device d)) w t)
    (device_makes s t k l r d n w (there_named s t k d n l form (h BadName) (h BadLocation) (h NoSuchType) (h NoPlace) (h NameTaken) (h NotABucket)))
made_are_buckets s t (Move n l) k form told other =
    let h = edit_passed s t (Move n l) told in
    some_makes t (id_named t n) (move_item s t l) (move_makes s t k l (location_route s t l k.fits form.names form.few (h BadLocation) (h NoSuchType) (h NoPlace) (no_device_ends (end_id t (stops s l)) (h NotABucket))))
made_are_buckets s t (Swap m n) k form told other =
    some_makes t (bucket_named t m) (λ a. on_some t (bucket_named t n) (λ b. kept (swap_buckets a b t)))
    (λ a. some_makes t (bucket_named t n) (λ b. kept (swap_buckets a b t)) (λ b. no_more (bucket_count (swap_buckets a b t)) (bucket_count t) (swap_count a b t)))
made_are_buckets s t (Reweight n w) k form told other =
    some_makes t (id_named t n) (λ i. kept (set_weight i w t)) (λ i. no_more (bucket_count (set_weight i w t)) (bucket_count t) (weights_count (λ (x : Row). same_id x.id i) w t))
made_are_buckets s t (ReweightSubtree n w) k form told other =
    some_makes t (bucket_named t n) (λ b. kept (set_subtree b w t)) (λ b. no_more (bucket_count (set_subtree b w t)) (bucket_count t) (weights_count _ w t))
made_are_buckets s t (Remove n) k form told other = absurd cc
made_are_buckets s t (AddBucket n kind) k form told other = (added_counts s t n kind).1
made_are_buckets s t (Rename from to) k form told other =
    some_makes t (id_named t from) (λ i. kept (set_name i to t)) (λ i. no_more (bucket_count (set_name i to t)) (bucket_count t) (name_count i to t))
made_are_buckets s t (SetClass n c) k form told other =
    some_makes t (id_named t n) (λ i. kept (set_class i (Some c) t)) (λ i. no_more (bucket_count (set_class i (Some c) t)) (bucket_count t) (class_count i (Some c) t))
made_are_buckets s t (RemoveClass n) k form told other =
    some_makes t (id_named t n) (λ i. kept (set_class i None t)) (λ i. no_more (bucket_count (set_class i None t)) (bucket_count t) (class_count i None t))
