-- Proves that if the table and the setting are lawful after a line, then what the line declares was free before the line.
use Rattle.std.proofs.Common.{◌≡◌, ℕ, ◌+◌, ◌<◌, ◌≤◌, Bool, true, false, List, [], ◌∷◌, ◌++◌, Option, Some, length, refl, sym, ap, subst, ◌∙◌, arith}
use Rattle.std.proofs.lemmas.Bool.{le-ltb, lt-leb, eq-eqb}
use Rattle.std.proofs.lemmas.List.{length-append, map-append}
use Rattle.std.proofs.lemmas.List.Elements.{All-head, All-tail}
use Rattle.std.proofs.lemmas.List.Sums.{sum_by-append, sum_by-cons}
use Rattle.std.proofs.lemmas.Slice.Eq.{bytes_eq-Decides}
use Rattle.std.specs.Prelude.{bytes_eq, ◌==◌, ◌||◌, nat_le, is_some, unwrap_or, find, map, filter, All, if◌then◌else◌}
use Rattle.std.specs.Option.{option_map}
use Rattle.std.specs.List.{count_by, list_any}
use Rattle.crush_units.specs.declared.id.ItemId.{ItemId}
use Rattle.crush_units.specs.declared.id.ItemId.TheVariants.{Device, Bucket}
use Rattle.crush_units.specs.Id.{same_id, is_device_id}
use Rattle.crush_units.proofs.Ids.{same_id_refl, same_id_equal}
use Rattle.crush_units.specs.Name.{IsName}
use Rattle.crush_units.specs.declared.limits.TheConstants.{DEVICE_IDS, HEAVIEST_BUCKET, HEAVIEST_DEVICE, HEAVIEST_MAP, MOST_CLASS_IDS, MOST_DEVICES, MOST_RULES, MOST_STEPS, MOST_TUNABLES, MOST_TYPES}
use Rattle.crush_model.specs.Items.{ShadowData}
use Rattle.crush_model.specs.Table.{Row, member, used_ids, is_device, row_of, row_named, is_there, is_named, sum_below, total, device_count}
use Rattle.crush_model.specs.Columns.{without_row}
use Rattle.crush_model.specs.Lawful.{Lawful, IsShadowId, IsRow, IsRowOf, IsDeviceRow, is_over, is_too_heavy}
use Rattle.crush_edits.specs.Setting.{KindData, TunableData, StepData, RuleData}
use Rattle.crush_edits.specs.Fits.{IsKind, IsTunable, IsStep, IsRule, is_reserved}
use Rattle.crush_model.specs.Count.{one_if}
use Rattle.crush_model.proofs.Tested.{bytes_itself}
use Rattle.crush_print.proofs.PrintedTexts.{All-right}
use Rattle.crush_model.proofs.Found.{times, row_of-absent}
use Rattle.crush_map.specs.WrittenItems.{placed_row, put_below}
use Rattle.crush_builder.specs.Built.{Draft, Pending, nothing, filling, with_tunable, with_kind, with_device, add_rule, table_with_item, with_next_item}
use Rattle.crush_builder.specs.Building.{CanNumber, own_ids, has_name, has_pending_name, has_kind_number, has_kind_name, has_tunable, is_full_of_devices, is_full_of_kinds, is_full_of_tunables}
use Rattle.crush_builder.specs.Rules.{has_rule_name, has_rule_id, is_full_of_rules}
use Rattle.crush_builder.proofs.RowSteps.{new_device}
use Rattle.crush_text.specs.Grammar.{with_step}
use Rattle.crush_text.specs.Document.{IsMap}

-- one more element that passes a test adds 1 to the count
pub count_last : {X : Type 0} (p : X → Bool) (xs : List X) (y : X) → p y ≡ true → count_by p (xs ++ y ∷ []) ≡ count_by p xs + 1
count_last p xs y h =
    let one : one_if (p y) ≡ 1 = ap one_if h in
    omega (arith, one, sum_by-append (λ x. one_if (p x)) xs (y ∷ []), sum_by-cons (λ x. one_if (p x)) y [])

-- if the count of elements that pass a test is 0, no element passes
pub any_none : {X : Type 0} (p : X → Bool) (xs : List X) → count_by p xs ≡ 0 → list_any p xs ≡ false
any_none p [] h = refl
any_none p (x ∷ xs) h = by_test (p x) refl (any_none p xs)
  where
    by_test : (b : Bool) → p x ≡ b → (count_by p xs ≡ 0 → list_any p xs ≡ false) → (p x || list_any p xs) ≡ false
    by_test true e ih = let one : one_if (p x) ≡ 1 = ap one_if e in absurd (omega (arith, h, one, sum_by-cons (λ y. one_if (p y)) x xs))
    by_test false e ih = rw e (ih (omega (arith, h, sum_by-cons (λ y. one_if (p y)) x xs)))

-- if at most one element passes a test and the last element passes, no element before it passes
pub none_before : {X : Type 0} (p : X → Bool) (xs : List X) (y : X) → p y ≡ true → count_by p (xs ++ y ∷ []) ≤ 1 → count_by p xs ≡ 0
none_before p xs y h one = omega (arith, one, count_last p xs y h)

-- a name that no row has is not the name of an item
pub unnamed : (t : List Row) (n : List ℕ) → count_by (λ (r : Row). bytes_eq r.name n) t ≡ 0 → is_named t n ≡ false
unnamed [] n h = refl
unnamed (r ∷ t) n h = by_test (bytes_eq r.name n) refl (unnamed t n)
  where
    by_test : (b : Bool) → bytes_eq r.name n ≡ b → (count_by (λ (x : Row). bytes_eq x.name n) t ≡ 0 → is_named t n ≡ false) → is_named (r ∷ t) n ≡ false
    by_test true e ih = let one : one_if (bytes_eq r.name n) ≡ 1 = ap one_if e in absurd (omega (arith, h, one, sum_by-cons (λ (x : Row). one_if (bytes_eq x.name n)) r t))
    by_test false e ih = rw e (ih (omega (arith, h, sum_by-cons (λ (x : Row). one_if (bytes_eq x.name n)) r t)))

-- what holds before the line of a type: the type's number and name are free, and there is room for it
pub record KindFree (d : Draft) (n : ℕ) (x : List ℕ) : Type 0 where
  pub number : has_kind_number d.setting n ≡ false
  pub name : has_kind_name d.setting x ≡ false
  pub few : is_full_of_kinds d ≡ false
  pub kind : IsKind (record { number = n; name = x })

-- what holds for all elements holds for the last
pub last_of : {X : Type 0} (P : X → Type 0) (xs : List X) (y : X) → All P (xs ++ y ∷ []) → P y
last_of P [] y h = All-head P y [] h
last_of P (x ∷ xs) y h = last_of P xs y (All-tail P x (xs ++ y ∷ []) h)

-- the last type is free before its line
pub kind_free : (d : Draft) (n : ℕ) (x : List ℕ) → IsMap (with_kind d n x) → KindFree d n x
kind_free d n x m =
    let kind : KindData = record { number = n; name = x } in
    record {
      number = any_none (λ (k : KindData). k.number == n) d.setting.kinds (none_before (λ (k : KindData). k.number == n) d.setting.kinds kind (eq-eqb n n refl) (m.fits.setting.numbers n));
      name = any_none (λ (k : KindData). bytes_eq k.name x) d.setting.kinds (none_before (λ (k : KindData). bytes_eq k.name x) d.setting.kinds kind (bytes_itself x) (m.fits.setting.names x));
      few = lt-leb MOST_TYPES (length d.setting.kinds) (omega (arith, m.fits.setting.few_kinds, length-append d.setting.kinds (kind ∷ [])));
      kind = last_of IsKind d.setting.kinds kind m.fits.setting.kinds;
    }

-- what holds before the line of a tunable: its name is free, and there is room for it
pub record TunableFree (d : Draft) (x : List ℕ) (v : ℕ) : Type 0 where
  pub name : has_tunable d.setting x ≡ false
  pub few : is_full_of_tunables d ≡ false
  pub tunable : IsTunable (record { name = x; value = v })

-- the last tunable is free before its line
pub tunable_free : (d : Draft) (x : List ℕ) (v : ℕ) → IsMap (with_tunable d x v) → TunableFree d x v
tunable_free d x v m =
    let new : TunableData = record { name = x; value = v } in
    record {
      name = any_none (λ (k : TunableData). bytes_eq k.name x) d.setting.tunables (none_before (λ (k : TunableData). bytes_eq k.name x) d.setting.tunables new (bytes_itself x) (m.fits.setting.tunable_names x));
      few = lt-leb MOST_TUNABLES (length d.setting.tunables) (omega (arith, m.fits.setting.few_tunables, length-append d.setting.tunables (new ∷ [])));
      tunable = last_of IsTunable d.setting.tunables new m.fits.setting.tunables;
    }

-- what holds before the lines of a rule: its name and id are free, and there is room for it
pub record RuleFree (d : Draft) (r : RuleData) : Type 0 where
  pub name : has_rule_name d.setting r.name ≡ false
  pub id : has_rule_id d.setting r.id ≡ false
  pub few : is_full_of_rules d ≡ false
  pub rule : IsRule (add_rule d r).setting r

-- the last rule is free before its lines
pub rule_free : (d : Draft) (r : RuleData) → IsMap (add_rule d r) → RuleFree d r
rule_free d r m = record {
  name = any_none (λ (x : RuleData). bytes_eq x.name r.name) d.setting.rules (none_before (λ (x : RuleData). bytes_eq x.name r.name) d.setting.rules r (bytes_itself r.name) (m.fits.setting.rule_names r.name));
  id = any_none (λ (x : RuleData). x.id == r.id) d.setting.rules (none_before (λ (x : RuleData). x.id == r.id) d.setting.rules r (eq-eqb r.id r.id refl) (m.fits.setting.rule_ids r.id));
  few = lt-leb MOST_RULES (length d.setting.rules) (omega (arith, m.fits.setting.few_rules, length-append d.setting.rules (r ∷ [])));
  rule = last_of (IsRule (add_rule d r).setting) d.setting.rules r m.fits.setting.rules;
}

-- what holds before the last step of a rule: there is room for it, and it has the form of a step
pub record StepFree (d : Draft) (r : RuleData) (s : StepData) : Type 0 where
  pub few : nat_le MOST_STEPS (length r.steps) ≡ false
  pub step : IsStep (add_rule d (with_step r s)).setting s

pub step_free : (d : Draft) (r : RuleData) (s : StepData) → IsMap (add_rule d (with_step r s)) → StepFree d r s
step_free d r s m =
    let f = rule_free d (with_step r s) m in
    record {
      few = lt-leb MOST_STEPS (length r.steps) (omega (arith, f.rule.few, length-append r.steps (s ∷ [])));
      step = last_of (IsStep (add_rule d (with_step r s)).setting) r.steps s f.rule.steps;
    }

-- what holds before the line of a class id: the id and the class are free, and there is room for it
pub record ClassFree (t : List Row) (b : ℕ) (cs : List ShadowData) (c : ShadowData) : Type 0 where
  pub few : nat_le MOST_CLASS_IDS (length cs) ≡ false
  pub form : IsShadowId c
  pub fresh : member c.id (used_ids t) ≡ false
  pub other : member c.id (own_ids b cs) ≡ false
  pub class : list_any (λ (x : ShadowData). bytes_eq x.class c.class) cs ≡ false

-- a number is a member of a list if it is equal to an element
member_any : (k : ℕ) (xs : List ℕ) → member k xs ≡ list_any (λ u. u == k) xs
member_any k [] = refl
member_any k (x ∷ xs) = ap (λ b. (x == k) || b) (member_any k xs)

-- the last class id is free before its line
pub class_free : (t : List Row) (b : ℕ) (cs : List ShadowData) (c : ShadowData) → CanNumber t b (cs ++ c ∷ []) → ClassFree t b cs c
class_free t b cs c n =
    let own : own_ids b (cs ++ c ∷ []) ≡ own_ids b cs ++ c.id ∷ [] = ap (λ (xs : List ℕ). b ∷ xs) (map-append (λ (x : ShadowData). x.id) cs (c ∷ [])) in
    let once : count_by (λ u. u == c.id) (own_ids b cs ++ c.id ∷ []) ≤ 1 = subst (λ (xs : List ℕ). count_by (λ u. u == c.id) xs ≤ 1) own (n.apart c.id) in
    record {
      few = lt-leb MOST_CLASS_IDS (length cs) (omega (arith, n.few, length-append cs (c ∷ [])));
      form = last_of IsShadowId cs c n.form;
      fresh = last_of (λ (x : ShadowData). member x.id (used_ids t) ≡ false) cs c n.fresh;
      other = member_any c.id (own_ids b cs) ∙ any_none (λ u. u == c.id) (own_ids b cs) (none_before (λ u. u == c.id) (own_ids b cs) c.id (eq-eqb c.id c.id refl) once);
      class = any_none (λ (x : ShadowData). bytes_eq x.class c.class) cs (none_before (λ (x : ShadowData). bytes_eq x.class c.class) cs c (bytes_itself c.class) (n.classes c.class));
    }

-- the name of a type is a name
pub kind_form : (kinds : List KindData) (k : List ℕ) → All IsKind kinds → is_some (option_map (λ (x : KindData). x.number) (find (λ (x : KindData). bytes_eq x.name k) kinds)) ≡ true → IsName k
kind_form [] k all some = absurd cc
kind_form (x ∷ kinds) k all some = by_test (bytes_eq x.name k) refl some (kind_form kinds k (All-tail IsKind x kinds all))
  where
    by_test : (b : Bool) → bytes_eq x.name k ≡ b → is_some (option_map (λ (y : KindData). y.number) (if b then Some x else find (λ (y : KindData). bytes_eq y.name k) kinds)) ≡ true
        → (is_some (option_map (λ (y : KindData). y.number) (find (λ (y : KindData). bytes_eq y.name k) kinds)) ≡ true → IsName k) → IsName k
    by_test true e some ih = subst IsName ((bytes_eq-Decides x.name k).0 e) (All-head IsKind x kinds all).name
    by_test false e some ih = ih some

-- the name of a type of buckets is a name, and it isn't one of the grammar's words
pub record NamesType (k : List ℕ) : Type 0 where
  pub form : IsName k
  pub free : is_reserved k ≡ false

-- the name of a type whose number isn't 0 is the name of a type of buckets
pub type_named : (kinds : List KindData) (k : List ℕ) → All IsKind kinds → 0 < unwrap_or (option_map (λ (x : KindData). x.number) (find (λ (x : KindData). bytes_eq x.name k) kinds)) 0 → NamesType k
type_named [] k all some = absurd (omega arith)
type_named (x ∷ kinds) k all some = by_test (bytes_eq x.name k) refl some (type_named kinds k (All-tail IsKind x kinds all))
  where
    by_test : (b : Bool) → bytes_eq x.name k ≡ b → 0 < unwrap_or (option_map (λ (y : KindData). y.number) (if b then Some x else find (λ (y : KindData). bytes_eq y.name k) kinds)) 0
        → (0 < unwrap_or (option_map (λ (y : KindData). y.number) (find (λ (y : KindData). bytes_eq y.name k) kinds)) 0 → NamesType k) → NamesType k
    by_test true e some ih =
        let kind = All-head IsKind x kinds all in
        let same = (bytes_eq-Decides x.name k).0 e in
        record { form = subst IsName same kind.name; free = ap is_reserved (sym same) ∙ kind.free some }
    by_test false e some ih = ih some

-- the names in the rows of a lawful table have the form of names
pub item_form : (t : List Row) (n : List ℕ) → All IsRow t → is_named t n ≡ true → IsName n
item_form [] n all e = absurd cc
item_form (r ∷ t) n all e = by_test (bytes_eq r.name n) refl e (item_form t n (All-tail IsRow r t all))
  where
    by_test : (b : Bool) → bytes_eq r.name n ≡ b → is_some (option_map (λ (x : Row). x.id) (if b then Some r else row_named t n)) ≡ true → (is_named t n ≡ true → IsName n) → IsName n
    by_test true h e ih = subst IsName ((bytes_eq-Decides r.name n).0 h) (All-head IsRow r t all).name
    by_test false h e ih = ih e

-- the name of the last row is free before this row's line
name_free : (d : Draft) (r : Row) → d.pending ≡ nothing → Lawful (d.table ++ r ∷ []) → has_name d r.name ≡ false
name_free d r idle l =
    let none : is_named d.table r.name ≡ false = unnamed d.table r.name (none_before (λ (x : Row). bytes_eq x.name r.name) d.table r (bytes_itself r.name) (l.names r.name)) in
    ap (λ (b : Bool). b || has_pending_name d.pending r.name) none ∙ ap (λ (p : Pending). has_pending_name p r.name) idle

-- what holds before the line of a device: its number and its name are free, and there is room for it
pub record DeviceFree (d : Draft) (n : ℕ) (x : List ℕ) : Type 0 where
  pub number : is_there d.table (Device n) ≡ false
  pub name : has_name d x ≡ false
  pub few : is_full_of_devices d ≡ false
  pub most : n < DEVICE_IDS
  pub form : IsName x

-- the device of the last row is free before its line
device_free_by : (d : Draft) (n : ℕ) (r : Row) → r.id ≡ Device n → d.pending ≡ nothing → Lawful (d.table ++ r ∷ []) → DeviceFree d n r.name
device_free_by d n r is idle l =
    let none : times (Device n) d.table ≡ 0 = none_before (λ (x : Row). same_id x.id (Device n)) d.table r (ap (λ (i : ItemId). same_id i (Device n)) is ∙ same_id_refl (Device n)) (l.ids (Device n)) in
    let device : is_device r ≡ true = rw is refl in
    let row = last_of IsRow d.table r l.rows in
    let own : IsDeviceRow n r = subst (λ (i : ItemId). IsRowOf i r) is row.form in
    record {
      number = ap is_some (row_of-absent d.table (Device n) none);
      name = name_free d r idle l;
      few = lt-leb MOST_DEVICES (device_count d.table) (omega (arith, l.devices, count_last is_device d.table r device));
      most = own.id;
      form = row.name;
    }

-- the device of a device's line is free before this line
pub device_free : (d : Draft) (n : ℕ) (x : List ℕ) (class : Option (List ℕ)) → d.pending ≡ nothing → IsMap (with_device d n x class) → DeviceFree d n x
device_free d n x class idle m = device_free_by d n (new_device n x class) refl idle m.lawful

-- the class of a device's line has the form of a name
pub class_form : (d : Draft) (n : ℕ) (x c : List ℕ) → IsMap (with_device d n x (Some c)) → IsName c
class_form d n x c m =
    let row = last_of IsRow d.table (new_device n x (Some c)) m.lawful.rows in
    let own : IsDeviceRow n (new_device n x (Some c)) = row.form in
    own.class

-- no bucket of a lawful table weighs more than it may
light_item : (t : List Row) → Lawful t → (i : ItemId) → is_over t i ≡ false
light_item t l (Device n) = refl
light_item t l (Bucket b) = le-ltb HEAVIEST_BUCKET (sum_below t b) (l.sums b)

-- no row of a lawful table is the row of a bucket that weighs more than it may
light_rows : (t us : List Row) → Lawful t → list_any (λ (r : Row). is_over t r.id) us ≡ false
light_rows t [] l = refl
light_rows t (r ∷ us) l = rw (light_item t l r.id) (light_rows t us l)

-- the total weight of a lawful table is within its bound
pub is_light : (t : List Row) → Lawful t → is_too_heavy t ≡ false
is_light t l = rw (light_rows t t l) (le-ltb HEAVIEST_MAP (total t) l.total)

-- if the row of a device with a weight is lawful, then the device may have this weight
row_light : (n b w : ℕ) (t : List Row) → All IsRow (map (placed_row b w) (filter (λ (r : Row). same_id r.id (Device n)) t)) → is_there t (Device n) ≡ true → w ≤ HEAVIEST_DEVICE
row_light n b w [] all there = absurd cc
row_light n b w (r ∷ t) all there = by_id (same_id r.id (Device n)) refl all there (row_light n b w t)
  where
    of_row : r.id ≡ Device n → IsRow (placed_row b w r) → w ≤ HEAVIEST_DEVICE
    of_row e row =
        let own : IsDeviceRow n (placed_row b w r) = subst (λ (i : ItemId). IsRowOf i (placed_row b w r)) e row.form in
        let is : (placed_row b w r).weight ≡ w = ap (λ (c : Bool). if c then w else r.weight) (ap is_device_id e) in
        subst (λ (x : ℕ). x ≤ HEAVIEST_DEVICE) is own.light

    by_id : (c : Bool) → same_id r.id (Device n) ≡ c → All IsRow (map (placed_row b w) (if c then r ∷ filter (λ (x : Row). same_id x.id (Device n)) t else filter (λ (x : Row). same_id x.id (Device n)) t))
        → is_some (if c then Some r else row_of t (Device n)) ≡ true → (All IsRow (map (placed_row b w) (filter (λ (x : Row). same_id x.id (Device n)) t)) → is_there t (Device n) ≡ true → w ≤ HEAVIEST_DEVICE) → w ≤ HEAVIEST_DEVICE
    by_id true e all there ih = of_row (same_id_equal r.id (Device n) e) (All-head IsRow (placed_row b w r) (map (placed_row b w) (filter (λ (x : Row). same_id x.id (Device n)) t)) all)
    by_id false e all there ih = ih all there

-- if the table with a device in the bucket that is being filled is lawful, then the device may have that weight
pub light_device : (d : Draft) (b n w : ℕ) → d.pending ≡ filling b → is_there d.table (Device n) ≡ true → IsMap (with_next_item d (Device n) (Some w)) → w ≤ HEAVIEST_DEVICE
light_device d b n w p there m =
    let l : Lawful (put_below b (Device n) w d.table) = subst (λ (q : Pending). Lawful (table_with_item q (Device n) w d.table)) p m.lawful in
    row_light n b w d.table (All-right IsRow (without_row (Device n) d.table) (map (placed_row b w) (filter (λ (r : Row). same_id r.id (Device n)) d.table)) l.rows) there
