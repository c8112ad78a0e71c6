-- Adding a row to the table: a device, or a bucket without items.
use Rattle.std.proofs.Common.{◌≡◌, ℕ, ◌<◌, ◌≤◌, Bool, true, false, List, [], ◌∷◌, ◌++◌, length, refl, ap, sym, subst, ◌∙◌, arith, length-append, ◌+◌, ⊎_elim}
use Rattle.std.proofs.lemmas.Bool.Decides.{nat_tests}
use Rattle.std.proofs.lemmas.List.Sums.{sum_by_push, sum_by-cons}
use Rattle.std.proofs.lemmas.List.Elements.{All-nil, All-cons, All-head, All-tail, All-push, All-map}
use Rattle.std.proofs.lemmas.List.{map-append}
use Rattle.std.proofs.lemmas.Bool.{eqb-true, and_parts, not-false, or_right as or_true}
use Rattle.std.proofs.lemmas.Bool.Decides.{eqb_tells}
use Rattle.std.proofs.lemmas.Slice.Eq.{bytes_eq-Decides}
use Rattle.std.specs.Prelude.{Option, Some, None, if◌then◌else◌, All, map, find, not, nat_le, nat_lt, ◌==◌, ◌||◌, ◌&&◌, bytes_eq, is_some, IfSome, option_and_then}
use Rattle.std.specs.Option.{option_map}
use Rattle.std.specs.List.{count_by, list_any}
use Rattle.crush_units.specs.declared.limits.TheConstants.{DEVICE_IDS, FARTHEST_BUCKET_ID, LAST_TYPE, MOST_BUCKETS, MOST_CLASS_IDS, MOST_DEVICES}
use Rattle.crush_units.specs.declared.id.ItemId.TheVariants.{Device, Bucket}
use Rattle.crush_units.specs.declared.alg.Alg.{Alg}
use Rattle.crush_units.specs.Name.{IsName}
use Rattle.crush_units.proofs.Ids.{same_id_refl}
use Rattle.crush_model.specs.Items.{ShadowData}
use Rattle.crush_model.specs.Table.{Row, member, used_ids, is_device, is_bucket, is_there, is_named, row_of, device_count, bucket_count}
use Rattle.crush_model.specs.Lawful.{Lawful, IsShadowId, has_too_many}
use Rattle.crush_model.specs.Forest.{ForestData, rows_of}
use Rattle.crush_model.specs.ItemRows.{device_row, bucket_row}
use Rattle.crush_model.specs.Stands.{Stands}
use Rattle.crush_edits.specs.Setting.{KindData, SettingData, kind_number}
use Rattle.crush_model.specs.Count.{one_if}
use Rattle.crush_model.proofs.Same.{times_used}
use Rattle.crush_model.proofs.Weighs.{or_left, or_right}
use Rattle.crush_model.proofs.Appended.{row_of-append, unused_times, unused_fresh, Lawful-push, Lawful-push_device}
use Rattle.crush_builder.proofs.KindSteps.{count_one_more, less}
use Rattle.crush_builder.proofs.Held.{held-push}
use Rattle.crush_edits.proofs.FitLaws.{Fits-push}
use Rattle.crush_builder.specs.declared.fault.BuildFault.TheVariants.{DuplicateId, DuplicateName, UnknownType, TooMany}
use Rattle.crush_builder.specs.Faults.{begin_fault, class_id_fault}
use Rattle.crush_builder.proofs.Faults.{none_of_three}
use Rattle.crush_builder.specs.Built.{Pending, nothing, begun, numbered, filling, Draft, begun_bucket, with_class_id, with_device, with_alg}
use Rattle.crush_builder.specs.Building.{BuilderData, BuilderFits, CanBegin, CanNumber, IsRoot, IsPending, IsDraft, own_draft, own_ids, is_bucket_kind, is_some_above_zero, names_bucket_kind, has_name, has_pending_id, has_bucket_id, has_class, pending_class_ids, is_full_of_buckets, is_full_of_class_ids}

not_less : (m n : ℕ) → n ≤ m → nat_lt m n ≡ false
not_less m n h = grind (arith, nat_tests)

is_positive : (k : ℕ) → nat_lt 0 k ≡ true → 0 < k
is_positive k h = grind (arith, nat_tests)

-- THE ROW of a new device, which has no parent
abbrev pub new_device : ℕ → List ℕ → Option (List ℕ) → Row
new_device id name class = device_row None (record { id = id; name = name; weight = 0; class = class })

device_room : (t : List Row) (r : Row) → Lawful t → is_device r ≡ true → is_bucket r ≡ false → nat_le MOST_DEVICES (device_count t) ≡ false → has_too_many (t ++ r ∷ []) ≡ false
device_room t r l dev buck few =
    let one : one_if (is_device r) ≡ 1 = ap one_if dev in
    let no : one_if (is_bucket r) ≡ 0 = ap one_if buck in
    let small : device_count t < MOST_DEVICES = less MOST_DEVICES (device_count t) few in
    let devices : nat_lt MOST_DEVICES (device_count (t ++ r ∷ [])) ≡ false = not_less MOST_DEVICES (device_count (t ++ r ∷ [])) (omega (arith, one, small, sum_by_push (λ (x : Row). one_if (is_device x)) t r)) in
    let buckets : nat_lt MOST_BUCKETS (bucket_count (t ++ r ∷ [])) ≡ false = not_less MOST_BUCKETS (bucket_count (t ++ r ∷ [])) (omega (arith, no, l.buckets, sum_by_push (λ (x : Row). one_if (is_bucket x)) t r)) in
    λ i. devices i || buckets i

-- the table with the new device's row is lawful
pub device_lawful : (t : List Row) (id : ℕ) (name : List ℕ) (class : Option (List ℕ)) → Lawful t → id < DEVICE_IDS → IsName name → IfSome class IsName → is_there t (Device id) ≡ false → is_named t name ≡ false → nat_le MOST_DEVICES (device_count t) ≡ false → Lawful (t ++ new_device id name class ∷ [])
device_lawful t id name class l small form kind fresh free few =
    Lawful-push_device t id (new_device id name class) refl l
    (record { name = form; form = record { id = small; kind = refl; light = omega arith; unplaced = λ _. refl; alg = refl; class_ids = refl; class = kind } })
    refl fresh free (device_room t (new_device id name class) l refl refl few)

-- THE STEP: the builder represents the draft with one more device
pub device_step : (b : BuilderData) (f : ForestData) (d : Draft) (id : ℕ) (name : List ℕ) (class : Option (List ℕ)) → IsDraft b d → b.pending ≡ nothing → Stands f (d.table ++ new_device id name class ∷ []) → IsDraft (record b { forest = f }) (with_device d id name class)
device_step b f d id name class i idle st = record {
  setting = i.setting;
  pending = i.pending;
  adjusted = i.adjusted;
  few = held-push d.adjusted d.table (new_device id name class) i.few;
  stands = st;
  fits = Fits-push d.setting d.table (new_device id name class) i.fits (λ some. absurd (omega (arith, some)));
  part = subst (IsPending d.setting (d.table ++ new_device id name class ∷ [])) (sym (sym i.pending ∙ idle)) tt;
}

-- if the type with a name has the number k, then there is a type with the number k
kind_there : (p : KindData → Bool) (xs : List KindData) (k : ℕ) → option_map (λ (x : KindData). x.number) (find p xs) ≡ Some k → list_any (λ (x : KindData). x.number == k) xs ≡ true
kind_there p [] k h = absurd (let no : ◌≡◌ {A = Option ℕ} None (Some k) = h in cc)
kind_there p (x ∷ xs) k h = by_test (p x) h (kind_there p xs k) where
  by_test : (b : Bool) → option_map (λ (y : KindData). y.number) (if b then Some x else find p xs) ≡ Some k → (option_map (λ (y : KindData). y.number) (find p xs) ≡ Some k → list_any (λ (y : KindData). y.number == k) xs ≡ true) → list_any (λ (y : KindData). y.number == k) (x ∷ xs) ≡ true
  by_test true e ih = let same : x.number ≡ k = cc in ap (λ b. b || list_any (λ (y : KindData). y.number == k) xs) (ap (λ m. m == k) same ∙ same_id_refl (Bucket k))
  by_test false e ih = or_true (x.number == k) (list_any (λ (y : KindData). y.number == k) xs) (ih e)

-- if buckets can have the type with a name, they can have the type with its number
pub named_bucket_kind : (s : SettingData) (n : List ℕ) (k : ℕ) → kind_number s n ≡ Some k → names_bucket_kind s n ≡ true → is_bucket_kind s k ≡ true
named_bucket_kind s n k e h = λ i. (ap is_some_above_zero (sym e) ∙ h) i && kind_there (λ (x : KindData). bytes_eq x.name n) s.kinds k e i

-- if beginning a bucket has no fault, then a type has the name that the bucket gives
pub no_number : (d : Draft) (q n : List ℕ) → begin_fault d q n ≡ None → kind_number d.setting q ≡ None → ⊥
no_number d q n clear e =
    let none = none_of_three DuplicateName UnknownType TooMany (has_name d n) (not (names_bucket_kind d.setting q)) (is_full_of_buckets d) clear in
    let no : true ≡ false = ap (λ o. not (is_some_above_zero o)) (sym e) ∙ none.1.0 in
    cc

-- THE STEP: the builder represents the draft after the first words of a bucket
pub begin_step : (b : BuilderData) (d : Draft) (q : List ℕ) (k : ℕ) (n : List ℕ) → IsDraft b d → begin_fault d q n ≡ None → kind_number d.setting q ≡ Some k → k ≤ LAST_TYPE → IsName n → IsDraft (record b { pending = begun k n }) (begun_bucket d k n)
begin_step b d q k n i clear e most form =
    let none = none_of_three DuplicateName UnknownType TooMany (has_name d n) (not (names_bucket_kind d.setting q)) (is_full_of_buckets d) clear in
    record {
      setting = i.setting;
      pending = refl;
      adjusted = i.adjusted;
      few = i.few;
      stands = i.stands;
      fits = i.fits;
      part = record {
        known = named_bucket_kind d.setting q k e (not-false (names_bucket_kind d.setting q) none.1.0);
        most = most;
        form = form;
        free = or_left _ _ none.0;
        few = less MOST_BUCKETS (bucket_count d.table) none.1.1;
      };
    }

-- the invariant of the builder is still true after the incomplete bucket gets its id
one_at_most : (b : Bool) → one_if b ≤ 1
one_at_most true = omega arith
one_at_most false = omega arith

pub id_fits : (b : BuilderData) (k : ℕ) (n : List ℕ) (id : ℕ) → BuilderFits b → b.pending ≡ begun k n → 0 < id → id ≤ FARTHEST_BUCKET_ID → has_bucket_id (own_draft b) id ≡ false → BuilderFits (record b { pending = numbered k n id [] })
id_fits b k n id keeps e some most free = record {
  fits = keeps.fits;
  part = (
    subst (IsPending b.setting (rows_of b.forest)) e keeps.part,
    record {
      some = some;
      most = most;
      free = or_left _ _ free;
      form = All-nil IsShadowId;
      fresh = All-nil (λ (c : ShadowData). member c.id (used_ids (rows_of b.forest)) ≡ false);
      apart = λ j. let one : one_if (id == j) ≤ 1 = one_at_most (id == j) in omega (arith, one, sum_by-cons (λ u. one_if (u == j)) id []);
      classes = λ c. omega arith;
      few = omega arith;
    },
  );
  few = keeps.few;
}

-- ONE MORE CLASS ID of the incomplete bucket
ids_pushed : (b : ℕ) (cs : List ShadowData) (c : ShadowData) → own_ids b (cs ++ c ∷ []) ≡ own_ids b cs ++ c.id ∷ []
ids_pushed b cs c = ap (λ xs. b ∷ xs) (map-append (λ (x : ShadowData). x.id) cs (c ∷ []))

-- an id that isn't in a list differs from each id of the list
not_among : (j : ℕ) (xs : List ℕ) → member j xs ≡ false → list_any (λ u. u == j) xs ≡ false
not_among j [] h = refl
not_among j (x ∷ xs) h = λ i. or_left (x == j) (member j xs) h i || not_among j xs (or_right (x == j) (member j xs) h) i

pub one_more_class_id : (d : Draft) (k b : ℕ) (n c : List ℕ) (i : ℕ) (cs : List ShadowData) → d.pending ≡ numbered k n b cs → CanNumber d.table b cs → 0 < i → i ≤ FARTHEST_BUCKET_ID → IsName c → class_id_fault d i c ≡ None → CanNumber d.table b (cs ++ record { id = i; class = c } ∷ [])
one_more_class_id d k b n c i cs e num some most name clear =
    let x : ShadowData = record { id = i; class = c } in
    let none = none_of_three DuplicateId DuplicateName TooMany (has_bucket_id d i) (has_class d c) (is_full_of_class_ids d) clear in
    let fresh : member i (used_ids d.table) ≡ false = or_left _ _ none.0 in
    let other : member i (own_ids b cs) ≡ false = ap (λ (p : Pending). has_pending_id p i) (sym e) ∙ or_right (member i (used_ids d.table)) (has_pending_id d.pending i) none.0 in
    let new : list_any (λ (y : ShadowData). bytes_eq y.class c) cs ≡ false = ap (λ (p : Pending). list_any (λ (y : ShadowData). bytes_eq y.class c) (pending_class_ids p)) (sym e) ∙ none.1.0 in
    let room : nat_le MOST_CLASS_IDS (length cs) ≡ false = ap (λ (p : Pending). nat_le MOST_CLASS_IDS (length (pending_class_ids p))) (sym e) ∙ none.1.1 in
    record {
      some = num.some;
      most = num.most;
      free = num.free;
      form = All-push IsShadowId cs x num.form (record { some = some; most = most; class = name });
      fresh = All-push (λ (y : ShadowData). member y.id (used_ids d.table) ≡ false) cs x num.fresh fresh;
      apart = λ j. subst (λ xs. count_by (λ u. u == j) xs ≤ 1) (sym (ids_pushed b cs x))
          (count_one_more (λ u. u == j) i (own_ids b cs) (num.apart j) (λ q. subst (λ m. list_any (λ u. u == m) (own_ids b cs) ≡ false) (eqb-true i j q) (not_among i (own_ids b cs) other)));
      classes = λ m. count_one_more (λ (y : ShadowData). bytes_eq y.class m) x cs (num.classes m) (λ q. subst (λ w. list_any (λ (y : ShadowData). bytes_eq y.class w) cs ≡ false) ((bytes_eq-Decides c m).0 q) new);
      few = let small : length cs < MOST_CLASS_IDS = less MOST_CLASS_IDS (length cs) room in omega (arith, length-append cs (x ∷ []));
    }

class_id_at : (b : BuilderData) (s : SettingData) (t : List Row) (a : ℕ) (k : ℕ) (n : List ℕ) (id i : ℕ) (c : List ℕ) (cs : List ShadowData) → IsDraft b (record { setting = s; table = t; pending = numbered k n id cs; adjusted = a }) → CanNumber t id (cs ++ record { id = i; class = c } ∷ []) →
    IsDraft (record b { pending = numbered k n id (cs ++ record { id = i; class = c } ∷ []) }) (with_class_id (record { setting = s; table = t; pending = numbered k n id cs; adjusted = a }) i c)
class_id_at b s t a k n id i c cs at num = record {
  setting = at.setting;
  pending = refl;
  adjusted = at.adjusted;
  few = at.few;
  stands = at.stands;
  fits = at.fits;
  part = (at.part.0, num);
}

-- THE STEP: the builder represents the draft in which the bucket has one more class id
pub class_id_step : (b : BuilderData) (d : Draft) (k : ℕ) (n : List ℕ) (id i : ℕ) (c : List ℕ) (cs : List ShadowData) → IsDraft b d → b.pending ≡ numbered k n id cs → 0 < i → i ≤ FARTHEST_BUCKET_ID → IsName c → class_id_fault d i c ≡ None →
    IsDraft (record b { pending = numbered k n id (cs ++ record { id = i; class = c } ∷ []) }) (with_class_id d i c)
class_id_step b d k n id i c cs at e some most name clear =
    let p : d.pending ≡ numbered k n id cs = sym at.pending ∙ e in
    let here : IsDraft b (record { setting = d.setting; table = d.table; pending = numbered k n id cs; adjusted = d.adjusted }) = subst (λ (x : Pending). IsDraft b (record { setting = d.setting; table = d.table; pending = x; adjusted = d.adjusted })) p at in
    subst (λ (x : Pending). IsDraft (record b { pending = numbered k n id (cs ++ record { id = i; class = c } ∷ []) }) (with_class_id (record { setting = d.setting; table = d.table; pending = x; adjusted = d.adjusted }) i c)) (sym p)
    (class_id_at b d.setting d.table d.adjusted k n id i c cs here (one_more_class_id d k id n c i cs p here.part.1 some most name clear))

-- THE ROW of a new bucket, which has no items and no parent
abbrev pub new_bucket : ℕ → List ℕ → ℕ → List ShadowData → Alg → Row
new_bucket k n id cs alg = bucket_row None (record { id = id; kind = k; name = n; alg = alg; class_ids = cs })

bucket_room : (t : List Row) (r : Row) → Lawful t → is_device r ≡ false → is_bucket r ≡ true → bucket_count t < MOST_BUCKETS → has_too_many (t ++ r ∷ []) ≡ false
bucket_room t r l dev buck few =
    let no : one_if (is_device r) ≡ 0 = ap one_if dev in
    let one : one_if (is_bucket r) ≡ 1 = ap one_if buck in
    let devices : nat_lt MOST_DEVICES (device_count (t ++ r ∷ [])) ≡ false = not_less MOST_DEVICES (device_count (t ++ r ∷ [])) (omega (arith, no, l.devices, sum_by_push (λ (x : Row). one_if (is_device x)) t r)) in
    let buckets : nat_lt MOST_BUCKETS (bucket_count (t ++ r ∷ [])) ≡ false = not_less MOST_BUCKETS (bucket_count (t ++ r ∷ [])) (omega (arith, one, few, sum_by_push (λ (x : Row). one_if (is_bucket x)) t r)) in
    λ i. devices i || buckets i

some_alg : (alg : Alg) → Some alg ≡ None → ⊥
some_alg alg e = cc

-- if new ids are distinct and free, then each id is still used at most once
used_once : (t : List Row) → Lawful t → (j : ℕ) (xs : List ℕ) → All (λ x. member x (used_ids t) ≡ false) xs → count_by (λ u. u == j) xs ≤ 1 → times_used j t + count_by (λ u. u == j) xs ≤ 1
used_once t l j [] free apart = omega (arith, l.used j)
used_once t l j (x ∷ xs) free apart = ⊎_elim
    (λ p. let gone : times_used j t ≡ 0 = ap (λ z. times_used z t) (sym p.1) ∙ unused_times t x (All-head (λ y. member y (used_ids t) ≡ false) x xs free) in omega (arith, gone, apart))
    (λ p.
    let other : one_if (x == j) ≡ 0 = ap one_if p.0 in
    let count = sum_by-cons (λ u. one_if (u == j)) x xs in
    let rest : count_by (λ u. u == j) xs ≤ 1 = omega (arith, apart, count) in
    omega (arith, other, count, used_once t l j xs (All-tail (λ y. member y (used_ids t) ≡ false) x xs free) rest))
    (eqb_tells x j)

own_free : (t : List Row) (b : ℕ) (cs : List ShadowData) → CanNumber t b cs → All (λ x. member x (used_ids t) ≡ false) (own_ids b cs)
own_free t b cs num =
    All-cons (λ x. member x (used_ids t) ≡ false) b (map (λ (c : ShadowData). c.id) cs) num.free (All-map (λ x. member x (used_ids t) ≡ false) (λ (c : ShadowData). c.id) cs num.fresh)

-- the table with the new bucket's row is lawful
pub bucket_lawful : (s : SettingData) (t : List Row) (k : ℕ) (n : List ℕ) (id : ℕ) (cs : List ShadowData) (alg : Alg) → Lawful t → CanBegin s t k n → CanNumber t id cs → Lawful (t ++ new_bucket k n id cs alg ∷ [])
bucket_lawful s t k n id cs alg l can num =
    Lawful-push t (new_bucket k n id cs alg) l
    (record {
      name = can.form;
      form = record {
        some = num.some;
        most = num.most;
        kind_some = is_positive k (and_parts _ _ can.known).0;
        kind_most = can.most;
        weight = refl;
        class = refl;
        alg = some_alg alg;
        class_ids = num.form;
        few = num.few;
        classes = num.classes;
      };
    })
    refl (unused_fresh t id num.free) can.free (λ j. used_once t l j (own_ids id cs) (own_free t id cs num) (num.apart j)) (bucket_room t (new_bucket k n id cs alg) l refl refl can.few)

-- the new bucket is a root of this table
new_root : (t : List Row) (k : ℕ) (n : List ℕ) (id : ℕ) (cs : List ShadowData) (alg : Alg) → CanNumber t id cs → IsRoot (t ++ new_bucket k n id cs alg ∷ []) id
new_root t k n id cs alg num =
    let found : row_of (t ++ new_bucket k n id cs alg ∷ []) (Bucket id) ≡ Some (new_bucket k n id cs alg) =
    row_of-append t (new_bucket k n id cs alg ∷ []) (Bucket id) ∙ (λ i. if unused_fresh t id num.free i then row_of t (Bucket id) else (if same_id_refl (Bucket id) i then Some (new_bucket k n id cs alg) else None)) in
    record { there = ap is_some found; root = ap (option_and_then (λ (r : Row). r.parent)) found }

step_at : (b : BuilderData) (f : ForestData) (s : SettingData) (t : List Row) (a : ℕ) (k : ℕ) (n : List ℕ) (id : ℕ) (cs : List ShadowData) (alg : Alg) → IsDraft b (record { setting = s; table = t; pending = numbered k n id cs; adjusted = a }) → Stands f (t ++ new_bucket k n id cs alg ∷ []) →
    IsDraft (record { setting = b.setting; forest = f; pending = filling id; adjusted = b.adjusted }) (with_alg (record { setting = s; table = t; pending = numbered k n id cs; adjusted = a }) alg)
step_at b f s t a k n id cs alg i st = record {
  setting = i.setting;
  pending = refl;
  adjusted = i.adjusted;
  few = held-push a t (new_bucket k n id cs alg) i.few;
  stands = st;
  fits = Fits-push s t (new_bucket k n id cs alg) i.fits (λ _. (and_parts _ _ i.part.0.known).1);
  part = new_root t k n id cs alg i.part.1;
}

-- THE STEP: the builder represents the draft with one more bucket, which has no items
pub alg_step : (b : BuilderData) (f : ForestData) (d : Draft) (k : ℕ) (n : List ℕ) (id : ℕ) (cs : List ShadowData) (alg : Alg) → IsDraft b d → b.pending ≡ numbered k n id cs → Stands f (d.table ++ new_bucket k n id cs alg ∷ []) →
    IsDraft (record { setting = b.setting; forest = f; pending = filling id; adjusted = b.adjusted }) (with_alg d alg)
alg_step b f d k n id cs alg i e st =
    let p : d.pending ≡ numbered k n id cs = sym i.pending ∙ e in
    subst (λ (x : Pending). IsDraft (record { setting = b.setting; forest = f; pending = filling id; adjusted = b.adjusted }) (with_alg (record { setting = d.setting; table = d.table; pending = x; adjusted = d.adjusted }) alg)) (sym p)
    (step_at b f d.setting d.table d.adjusted k n id cs alg (subst (λ (x : Pending). IsDraft b (record { setting = d.setting; table = d.table; pending = x; adjusted = d.adjusted })) p i) st)

-- a test of the elements as contracts see them is the same test of the mapped list
pub any_seen : {X Y : Type 0} (f : X → Y) (p : Y → Bool) (xs : List X) → list_any (λ x. p (f x)) xs ≡ list_any p (map f xs)
any_seen f p [] = refl
any_seen f p (x ∷ xs) = ap (λ b. p (f x) || b) (any_seen f p xs)

any_member : (k : ℕ) (cs : List ShadowData) → list_any (λ (c : ShadowData). c.id == k) cs ≡ member k (map (λ (c : ShadowData). c.id) cs)
any_member k [] = refl
any_member k (c ∷ cs) = ap (λ b. (c.id == k) || b) (any_member k cs)

-- whether an id is among class ids
pub id_seen : {X : Type 0} (f : X → ShadowData) (k : ℕ) (xs : List X) → list_any (λ x. (f x).id == k) xs ≡ member k (map (λ (c : ShadowData). c.id) (map f xs))
id_seen f k xs = any_seen f (λ (c : ShadowData). c.id == k) xs ∙ any_member k (map f xs)
