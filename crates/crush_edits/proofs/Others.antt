-- The tables that the edits without a location leave: that they are lawful, that the setting fits them, and their counts.
use Rattle.std.proofs.Common.{◌≡◌, ℕ, ◌+◌, ◌<◌, ◌≤◌, Bool, true, false, List, [], ◌∷◌, ◌++◌, length, refl, ap, sym, subst, ◌∙◌, arith, ⊎_elim}
use Rattle.std.specs.Prelude.{◌==◌, ◌||◌, not, if◌then◌else◌, Some, None, IfSome, All, map, is_some, is_none, unwrap_or, nat_lt}
use Rattle.std.specs.List.{list_any}
use Rattle.std.specs.Option.{option_map}
use Rattle.std.proofs.Math.Bool.{or-true}
use Rattle.std.proofs.lemmas.Bool.{lt-ltb, not-false}
use Rattle.std.proofs.lemmas.Bool.Decides.{eqb_tells}
use Rattle.std.proofs.lemmas.List.Elements.{All-nil, All-cons, All-head, All-tail, All-append, All-filter, All-weaker}
use Rattle.std.proofs.lemmas.List.Sums.{sum_by_push}
use Rattle.crush_units.specs.declared.id.ItemId.{ItemId}
use Rattle.crush_units.specs.declared.id.ItemId.TheVariants.{Device, Bucket}
use Rattle.crush_units.specs.Id.{same_id}
use Rattle.crush_units.specs.declared.limits.TheConstants.{FARTHEST_BUCKET_ID, LAST_TYPE, MOST_BUCKETS, MOST_DEVICES}
use Rattle.crush_model.specs.Lawful.{IsShadowId, IsRow, Lawful, has_too_many}
use Rattle.crush_model.specs.ItemRows.{bucket_row}
use Rattle.crush_model.specs.Table.{Row, is_device, is_bucket, row_of, kids, member, used_ids, free_ids, device_count, bucket_count}
use Rattle.crush_model.specs.Columns.{exchange_id, exchange_names, without_row}
use Rattle.crush_model.proofs.Appended.{Lawful-push_bucket}
use Rattle.crush_model.proofs.Attached.{is_there-append}
use Rattle.crush_model.proofs.Changes.{with_name-id}
use Rattle.crush_model.proofs.Classes.{with_class, with_class-id, class-keeps}
use Rattle.crush_model.proofs.Kept.{is_there-map}
use Rattle.crush_model.specs.Count.{one_if}
use Rattle.crush_model.proofs.Removed.{row_of-only, Lawful-without}
use Rattle.crush_model.proofs.Weighs.{or_left, or_right, All-both}
use Rattle.crush_edits.specs.declared.refusal.Refusal.TheVariants.{NoSuchType, NameTaken, WrongType, NoRoom}
use Rattle.crush_edits.specs.declared.edit.Edit.TheVariants.{AddBucket}
use Rattle.crush_edits.specs.Stops.{number_of}
use Rattle.crush_edits.specs.Put.{new_header, with_ids, chain}
use Rattle.crush_model.specs.Law.{AreFreeIds}
use Rattle.crush_edits.specs.Answer.{meets, first_refusal}
use Rattle.crush_edits.specs.Changed.{same_table}
use Rattle.crush_edits.specs.Edit.{refusal}
use Rattle.crush_edits.specs.Setting.{KindData, SettingData, kind_number, taken_buckets}
use Rattle.crush_edits.specs.Fits.{HasKind, Fits, IsThere}
use Rattle.crush_edits.specs.Making.{added_stop, holds_items, is_taken_by_rule, after_add_bucket}
use Rattle.crush_edits.specs.LawOthers.{WeightChanges, WeightsFit, NameFits, ClassFits, SwapFits, RemoveKeepsLawful, RemoveFits, AddedIsRow, AddedChanges, AddedKeepsLawful, AddedCounts, AddedFits, FullHasNoRoom}
use Rattle.crush_edits.proofs.Changes.{same_weight, other_with}
use Rattle.crush_model.proofs.Emptied.{table_without-empty, table_without-device}
use Rattle.crush_model.proofs.FreeIds.{free_ids-length, free_ids-lawful}
use Rattle.crush_edits.proofs.PutLaws.{known, kind_known}
use Rattle.crush_edits.proofs.Stops.{kind_most}

pub weight_changes : WeightChanges
weight_changes t i w v l e = same_weight i w v t (l.ids i) e

-- A CHANGE OF COLUMNS other than id and kind
module _ (s : SettingData) (f : Row → Row) (ids : (r : Row) → (f r).id ≡ r.id) (kinds : (r : Row) → (f r).kind ≡ r.kind) where
  kinds_map : (t : List Row) → All (HasKind s) t → All (HasKind s) (map f t)
  kinds_map [] a = All-nil (HasKind s)
  kinds_map (r ∷ t) a =
      All-cons (HasKind s) (f r) (map f t) (subst (λ k. (0 < k) → list_any (λ (x : KindData). x.number == k) s.kinds ≡ true) (sym (kinds r)) (All-head (HasKind s) r t a)) (kinds_map t (All-tail (HasKind s) r t a))

  pub Fits-map : (t : List Row) → Fits s t → Fits s (map f t)
  Fits-map t fits = record {
    setting = fits.setting;
    types = kinds_map t fits.types;
    taken = All-weaker (IsThere t) (IsThere (map f t)) (λ b there. is_there-map f ids t (Bucket b) ∙ there) (taken_buckets s) fits.taken;
  }

pub weight_id : (b : Bool) (w : ℕ) (r : Row) → (if b then record r { weight = w } else r).id ≡ r.id
weight_id true w r = refl
weight_id false w r = refl

weight_kind : (b : Bool) (w : ℕ) (r : Row) → (if b then record r { weight = w } else r).kind ≡ r.kind
weight_kind true w r = refl
weight_kind false w r = refl

pub weights_fit : WeightsFit
weights_fit s t which w fits = Fits-map s (λ (r : Row). if which r then record r { weight = w } else r) (λ r. weight_id (which r) w r) (λ r. weight_kind (which r) w r) t fits

name_kind : (b : Bool) (n : List ℕ) (r : Row) → (if b then record r { name = n } else r).kind ≡ r.kind
name_kind true n r = refl
name_kind false n r = refl

pub name_fits : NameFits
name_fits s t i n fits = Fits-map s (λ (r : Row). if same_id r.id i then record r { name = n } else r) (λ r. with_name-id i n r) (λ r. name_kind (same_id r.id i) n r) t fits

pub class_fits : ClassFits
class_fits s t i c fits = Fits-map s (with_class i c) (with_class-id i c) (class-keeps (λ (r : Row). r.kind) (λ k r. refl) i c) t fits

pub swap_fits : SwapFits
swap_fits s t a b fits =
    Fits-map s (λ (r : Row). record r { parent = option_map (exchange_id a b) r.parent }) (λ r. refl) (λ r. refl) (exchange_names a b t)
    (name_fits s _ (Bucket a) _ (name_fits s t (Bucket b) _ fits))

-- A ROW that is removed
none_of_no_length : {X : Type 0} (xs : List X) → (length xs == 0) ≡ true → xs ≡ []
none_of_no_length [] h = refl
none_of_no_length (x ∷ xs) h = ⊎_elim (λ p. absurd (omega (arith, p.1))) (λ p. absurd (let other = p.0 in cc)) (eqb_tells (length (x ∷ xs)) 0)

pub holds_none : (t : List Row) (b : ℕ) → holds_items t b ≡ false → kids t b ≡ []
holds_none t b h = none_of_no_length (kids t b) (not-false (length (kids t b) == 0) h)

pub remove_lawful : RemoveKeepsLawful
remove_lawful t (Device d) l h = subst Lawful (table_without-device t d) (Lawful-without (Device d) t l)
remove_lawful t (Bucket b) l h = subst Lawful (table_without-empty t b (holds_none t b h)) (Lawful-without (Bucket b) t l)

apart_from : (b : ℕ) (xs : List ℕ) → member b xs ≡ false → All (λ x. same_id (Bucket x) (Bucket b) ≡ false) xs
apart_from b [] h = All-nil (λ x. same_id (Bucket x) (Bucket b) ≡ false)
apart_from b (x ∷ xs) h = All-cons (λ y. same_id (Bucket y) (Bucket b) ≡ false) x xs (or_left (x == b) (member b xs) h) (apart_from b xs (or_right (x == b) (member b xs) h))

no_device : (d : ℕ) (xs : List ℕ) → All (λ x. same_id (Bucket x) (Device d) ≡ false) xs
no_device d [] = All-nil (λ x. same_id (Bucket x) (Device d) ≡ false)
no_device d (x ∷ xs) = All-cons (λ y. same_id (Bucket y) (Device d) ≡ false) x xs refl (no_device d xs)

untaken : (s : SettingData) (i : ItemId) → meets (is_taken_by_rule s) (number_of i) ≡ false → All (λ x. same_id (Bucket x) i ≡ false) (taken_buckets s)
untaken s (Device d) h = no_device d (taken_buckets s)
untaken s (Bucket b) h = apart_from b (taken_buckets s) h

pub remove_fits : RemoveFits
remove_fits s t i fits h = record {
  setting = fits.setting;
  types = All-filter (λ (r : Row). not (same_id r.id i)) (HasKind s) t fits.types;
  taken = All-weaker (λ b. IsThere t b × (same_id (Bucket b) i ≡ false)) (IsThere (without_row i t))
      (λ b both. ap is_some (row_of-only (λ j. not (same_id j i)) t (Bucket b) ∙ ap (λ c. if not c then row_of t (Bucket b) else None) both.1) ∙ both.0)
      (taken_buckets s) (All-both (IsThere t) (λ b. same_id (Bucket b) i ≡ false) (taken_buckets s) fits.taken (untaken s i h));
}

-- A BUCKET that is appended
first_of_one : (xs : List ℕ) → length xs ≡ 1 → (x : ℕ) × (xs ≡ x ∷ [])
first_of_one [] h = absurd (omega (arith, h))
first_of_one (x ∷ []) h = (x, refl)
first_of_one (x ∷ y ∷ xs) h = absurd (omega (arith, h))

pub first_free : (t : List Row) → (b : ℕ) × (free_ids t 1 ≡ b ∷ [])
first_free t = first_of_one (free_ids t 1) (free_ids-length t 1)

abbrev new_root : ℕ → ℕ → List ℕ → Row
new_root b k n = bucket_row None (new_header (record { id = b; kind = k; name = n }))

added_row : (s : SettingData) (t : List Row) (n kind : List ℕ) (b : ℕ) → free_ids t 1 ≡ b ∷ [] → (after_add_bucket s t n kind).table ≡ t ++ new_root b (unwrap_or (kind_number s kind) 0) n ∷ []
added_row s t n kind b e = ap (λ ids. t ++ chain (with_ids ids (added_stop s n kind ∷ [])) None) e

pub added_is_row : AddedIsRow
added_is_row s t n kind k b known e = added_row s t n kind b e ∙ ap (λ o. t ++ new_root b (unwrap_or o 0) n ∷ []) known

pub added_changes : AddedChanges
added_changes s t n kind =
    let free = first_free t in
    ap (same_table t) (added_row s t n kind free.0 free.1) ∙ other_with t (new_root free.0 (unwrap_or (kind_number s kind) 0) n ∷ []) (omega arith)

pub added_counts : AddedCounts
added_counts s t n kind =
    let free = first_free t in
    let row : Row = new_root free.0 (unwrap_or (kind_number s kind) 0) n in (
      ap device_count (added_row s t n kind free.0 free.1) ∙ (sum_by_push (λ (r : Row). one_if (is_device r)) t (new_root free.0 (unwrap_or (kind_number s kind) 0) n) ∙ omega arith),
      ap bucket_count (added_row s t n kind free.0 free.1) ∙ sum_by_push (λ (r : Row). one_if (is_bucket r)) t (new_root free.0 (unwrap_or (kind_number s kind) 0) n),
    )

pub added_fits : AddedFits
added_fits s t n kind k e fits =
    let free = first_free t in
    let is : (after_add_bucket s t n kind).table ≡ t ++ new_root free.0 k n ∷ [] = added_is_row s t n kind k free.0 e free.1 in
    subst (Fits s) (sym is) (record {
      setting = fits.setting;
      types = All-append (HasKind s) t (new_root free.0 k n ∷ []) fits.types (All-cons (HasKind s) (new_root free.0 k n) [] (λ some. subst (λ o. IfSome o (known s)) e (kind_known s kind)) (All-nil (HasKind s)));
      taken = All-weaker (IsThere t) (IsThere (t ++ new_root free.0 k n ∷ [])) (λ b there. is_there-append t (new_root free.0 k n ∷ []) (Bucket b) there) (taken_buckets s) fits.taken;
    })

pub added_lawful : AddedKeepsLawful
added_lawful s t n kind k l fits e some form unnamed room =
    let free = first_free t in
    let is : (after_add_bucket s t n kind).table ≡ t ++ new_root free.0 k n ∷ [] = added_is_row s t n kind k free.0 e free.1 in
    let ids : AreFreeIds t 1 (free.0 ∷ []) = subst (AreFreeIds t 1) free.1 (free_ids-lawful t 1 l (omega arith)) in
    let positive : 0 < k = ⊎_elim (λ p. absurd (let no_more = p.0 in cc)) (λ p. omega (arith, p.1)) (eqb_tells k 0) in
    let row : IsRow (new_root free.0 k n) = record {
      name = form;
      form = record {
        some = All-head (λ x. 0 < x) free.0 [] ids.some;
        most = All-head (λ x. x ≤ FARTHEST_BUCKET_ID) free.0 [] ids.most;
        kind_some = positive;
        kind_most = subst (λ o. IfSome o (λ x. x ≤ LAST_TYPE)) e (kind_most s fits.setting.kinds kind);
        weight = refl;
        class = refl;
        alg = λ f. cc;
        class_ids = All-nil IsShadowId;
        few = omega arith;
        classes = λ c. omega arith;
      };
    } in
    subst Lawful (sym is) (Lawful-push_bucket t free.0 (new_root free.0 k n) refl refl l row refl (All-head (λ x. member x (used_ids t) ≡ false) free.0 [] ids.unused) unnamed (ap has_too_many (sym is) ∙ room))

-- NO ROOM
pub full_has_no_room : FullHasNoRoom
full_has_no_room s t n kind k e some unnamed full =
    let count : bucket_count (after_add_bucket s t n kind).table ≡ bucket_count t + 1 = (added_counts s t n kind).1 in
    let over : nat_lt MOST_BUCKETS (bucket_count (after_add_bucket s t n kind).table) ≡ true = lt-ltb MOST_BUCKETS (bucket_count (after_add_bucket s t n kind).table) (omega (arith, count, full)) in
    let room : has_too_many (after_add_bucket s t n kind).table ≡ true = ap (λ b. nat_lt MOST_DEVICES (device_count (after_add_bucket s t n kind).table) || b) over ∙ or-true (nat_lt MOST_DEVICES (device_count (after_add_bucket s t n kind).table)) in
    let told : refusal s t (AddBucket n kind) ≡ (if k == 0 then Some WrongType else Some NoRoom) =
    λ i. first_refusal ((NoSuchType, is_none (e i)) ∷ ((NameTaken, unnamed i) ∷ ((WrongType, meets (λ x. x == 0) (e i)) ∷ ((NoRoom, room i) ∷ [])))) in
    told ∙ ap (λ b. if b then Some WrongType else Some NoRoom) some
