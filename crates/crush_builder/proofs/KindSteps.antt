-- Adding a type to the setting.
use Rattle.std.proofs.Common.{◌≡◌, ℕ, ◌<◌, ◌≤◌, Bool, true, false, List, [], ◌∷◌, ◌++◌, length, refl, ap, sym, subst, ◌∙◌, arith, length-append, ⊎_elim}
use Rattle.std.proofs.lemmas.Bool.Decides.{nat_tests}
use Rattle.std.proofs.lemmas.Bool.{eqb-true}
use Rattle.std.proofs.lemmas.Slice.Eq.{bytes_eq-Decides}
use Rattle.std.proofs.lemmas.List.Sums.{sum_by_push, sum_by-cons}
use Rattle.std.proofs.lemmas.List.Folds.{list_any-append}
use Rattle.std.proofs.lemmas.List.Elements.{All-push, All-weaker}
use Rattle.std.specs.Prelude.{Option, Some, None, if◌then◌else◌, nat_le, ◌==◌, ◌||◌, bytes_eq, is_some, find}
use Rattle.std.specs.List.{count_by, list_any}
use Rattle.std.specs.Option.{option_map, option_copied}
use denote.Ref.{Bor}
use Rattle.crush_units.specs.declared.limits.TheConstants.{MOST_TYPES}
use Rattle.crush_model.specs.Table.{Row}
use Rattle.crush_edits.specs.Setting.{KindData, StepData, take, choose, set, emit, RuleData, SettingData, kind_number, kind_name}
use Rattle.crush_edits.specs.Fits.{IsKind, IsStep, IsRule, Fits, HasKind}
use Rattle.crush_model.specs.Count.{one_if}
use Rattle.crush_model.proofs.Weighs.{true_or_false}
use Rattle.crush_builder.specs.Built.{Draft, nothing, with_kind}
use Rattle.crush_builder.specs.Building.{BuilderData, IsDraft, IsPending, has_kind_number, has_kind_name, is_full_of_kinds}

-- if no element passes the test, the count is 0
none_passes : {X : Type 0} (p : X → Bool) (xs : List X) → list_any p xs ≡ false → count_by p xs ≡ 0
none_passes p [] h = refl
none_passes p (x ∷ xs) h = ⊎_elim
    (λ e. absurd (let no : true ≡ false = sym (ap (λ b. b || list_any p xs) e) ∙ h in cc))
    (λ e. let rest : list_any p xs ≡ false = sym (ap (λ b. b || list_any p xs) e) ∙ h in
    let no : one_if (p x) ≡ 0 = ap one_if e in omega (arith, no, none_passes p xs rest, sum_by-cons (λ z. one_if (p z)) x xs))
    (true_or_false (p x))

-- if at most one element of a list passes a test, this is still so with one more element at the end, unless the new element and another one pass
pub count_one_more : {X : Type 0} (q : X → Bool) (x : X) (xs : List X) → count_by q xs ≤ 1 → (q x ≡ true → list_any q xs ≡ false) → count_by q (xs ++ x ∷ []) ≤ 1
count_one_more q x xs once free = ⊎_elim
    (λ e. let one : one_if (q x) ≡ 1 = ap one_if e in omega (arith, one, none_passes q xs (free e), sum_by_push (λ z. one_if (q z)) xs x))
    (λ e. let no : one_if (q x) ≡ 0 = ap one_if e in omega (arith, no, once, sum_by_push (λ z. one_if (q z)) xs x))
    (true_or_false (q x))

pub less : (m n : ℕ) → nat_le m n ≡ false → n < m
less m n h = grind (arith, nat_tests)

-- a search finds a type if and only if a type passes the test
found_if : (p : KindData → Bool) (b : Bool) (k : KindData) (o : Option KindData) (rest : Bool) → is_some o ≡ rest → is_some (if b then Some k else o) ≡ (b || rest)
found_if p true k o rest e = refl
found_if p false k o rest e = e

found_any : (p : KindData → Bool) (xs : List KindData) → is_some (find p xs) ≡ list_any p xs
found_any p [] = refl
found_any p (x ∷ xs) = found_if p (p x) x (find p xs) (list_any p xs) (found_any p xs)

some_map : {X Y : Type 0} (f : X → Y) (o : Option X) → is_some (option_map f o) ≡ is_some o
some_map f None = refl
some_map f (Some x) = refl

pub has_number_found : (s : SettingData) (n : ℕ) → is_some (kind_name s n) ≡ has_kind_number s n
has_number_found s n = some_map (λ (k : KindData). k.name) (find (λ (k : KindData). k.number == n) s.kinds) ∙ found_any (λ (k : KindData). k.number == n) s.kinds

pub has_name_found : (s : SettingData) (n : List ℕ) → is_some (kind_number s n) ≡ has_kind_name s n
has_name_found s n = some_map (λ (k : KindData). k.number) (find (λ (k : KindData). bytes_eq k.name n) s.kinds) ∙ found_any (λ (k : KindData). bytes_eq k.name n) s.kinds

pub some_copied : {X : Type 0} (o : Option (Bor X)) → is_some (option_copied o) ≡ is_some o
some_copied o = some_map (λ (x : Bor _). x.now) o

-- if a type has the name n, then a type still has this name after one more type is added
more_kinds : (s : SettingData) (k : KindData) (n : List ℕ) → is_some (kind_number s n) ≡ true → is_some (kind_number (record s { kinds = s.kinds ++ k ∷ [] }) n) ≡ true
more_kinds s k n h =
    has_name_found (record s { kinds = s.kinds ++ k ∷ [] }) n ∙ list_any-append (λ (x : KindData). bytes_eq x.name n) s.kinds (k ∷ [])
    ∙ ap (λ b. b || list_any (λ (x : KindData). bytes_eq x.name n) (k ∷ [])) (sym (has_name_found s n) ∙ h)

-- so each step of a rule keeps its form
step_kept : (s : SettingData) (k : KindData) (x : StepData) → IsStep s x → IsStep (record s { kinds = s.kinds ++ k ∷ [] }) x
step_kept s k (take b class) h = h
step_kept s k (choose leaf firstn count kind) h = record { range = h.range; known = more_kinds s k kind h.known }
step_kept s k (set word value) h = h
step_kept s k emit h = h

rule_kept : (s : SettingData) (k : KindData) (r : RuleData) → IsRule s r → IsRule (record s { kinds = s.kinds ++ k ∷ [] }) r
rule_kept s k r h = record {
  name = h.name;
  id = h.id;
  kind = h.kind;
  min_size = h.min_size;
  max_size = h.max_size;
  few = h.few;
  steps = All-weaker (IsStep s) (IsStep (record s { kinds = s.kinds ++ k ∷ [] })) (step_kept s k) r.steps h.steps;
}

-- the setting with one more type fits the table
pub Fits-with_kind : (s : SettingData) (t : List Row) (k : KindData) → Fits s t → IsKind k → has_kind_number s k.number ≡ false → has_kind_name s k.name ≡ false → nat_le MOST_TYPES (length s.kinds) ≡ false → Fits (record s { kinds = s.kinds ++ k ∷ [] }) t
Fits-with_kind s t k f is number name few = record {
  setting = record {
    numbers = λ n. count_one_more (λ (x : KindData). x.number == n) k s.kinds (f.setting.numbers n) (λ e. subst (λ m. list_any (λ (x : KindData). x.number == m) s.kinds ≡ false) (eqb-true k.number n e) number);
    names = λ n. count_one_more (λ (x : KindData). bytes_eq x.name n) k s.kinds (f.setting.names n) (λ e. subst (λ m. list_any (λ (x : KindData). bytes_eq x.name m) s.kinds ≡ false) ((bytes_eq-Decides k.name n).0 e) name);
    tunable_names = f.setting.tunable_names;
    rule_names = f.setting.rule_names;
    rule_ids = f.setting.rule_ids;
    kinds = All-push IsKind s.kinds k f.setting.kinds is;
    tunables = f.setting.tunables;
    rules = All-weaker (IsRule s) (IsRule (record s { kinds = s.kinds ++ k ∷ [] })) (rule_kept s k) s.rules f.setting.rules;
    few_kinds = let small : length s.kinds < MOST_TYPES = less MOST_TYPES (length s.kinds) few in omega (arith, length-append s.kinds (k ∷ []));
    few_tunables = f.setting.few_tunables;
    few_rules = f.setting.few_rules;
  };
  types = All-weaker (HasKind s) (HasKind (record s { kinds = s.kinds ++ k ∷ [] }))
      (λ r h some. list_any-append (λ (x : KindData). x.number == r.kind) s.kinds (k ∷ []) ∙ ap (λ b. b || list_any (λ (x : KindData). x.number == r.kind) (k ∷ [])) (h some)) t f.types;
  taken = f.taken;
}

-- THE STEP: the builder represents the draft with one more type
pub kind_step : (b : BuilderData) (s : SettingData) (d : Draft) (k : ℕ) (n : List ℕ) → IsDraft b d → b.pending ≡ nothing → s ≡ record b.setting { kinds = b.setting.kinds ++ record { number = k; name = n } ∷ [] } → IsKind (record { number = k; name = n }) → has_kind_number d.setting k ≡ false → has_kind_name d.setting n ≡ false → is_full_of_kinds d ≡ false →
    IsDraft (record b { setting = s }) (with_kind d k n)
kind_step b s d k n i idle e is number name few = record {
  setting = e ∙ (λ j. record (i.setting j) { kinds = (i.setting j).kinds ++ record { number = k; name = n } ∷ [] });
  pending = i.pending;
  adjusted = i.adjusted;
  few = i.few;
  stands = i.stands;
  fits = Fits-with_kind d.setting d.table (record { number = k; name = n }) i.fits is number name few;
  part = subst (IsPending (with_kind d k n).setting d.table) (sym (sym i.pending ∙ idle)) tt;
}
