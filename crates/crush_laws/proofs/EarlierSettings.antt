-- Proves that a map with one more type, tunable, rule or step is also a map without it.
use Rattle.std.proofs.Common.{◌≡◌, ℕ, ◌≤◌, Bool, List, [], ◌∷◌, ◌++◌, length, sym, subst, arith, length-append}
use Rattle.std.proofs.lemmas.List.Elements.{All-nil, All-weaker}
use Rattle.std.proofs.lemmas.List.Sums.{sum_by-append}
use Rattle.std.specs.Prelude.{◌==◌, All, bytes_eq}
use Rattle.std.specs.List.{count_by}
use Rattle.crush_units.specs.declared.limits.TheConstants.{MOST_RULES, MOST_STEPS, MOST_TUNABLES, MOST_TYPES}
use Rattle.crush_model.specs.Count.{one_if}
use Rattle.crush_model.specs.Table.{Row}
use Rattle.crush_edits.specs.Setting.{KindData, TunableData, StepData, RuleData, SettingData, taken_buckets}
use Rattle.crush_edits.specs.Fits.{IsKind, IsTunable, IsStep, IsRule, IsThere, HasKind}
use Rattle.crush_builder.specs.Built.{Draft, with_kind, with_tunable, add_rule}
use Rattle.crush_builder.proofs.RuleSteps.{rule_kept}
use Rattle.crush_print.proofs.PrintedTexts.{All-left}
use Rattle.crush_text.specs.Grammar.{with_step}
use Rattle.crush_text.specs.Document.{IsMap}
use Rattle.crush_laws.proofs.Allowed.{rule_free}
use Rattle.crush_laws.proofs.Ruled.{taken_by, CanAdd, map_with_rule}

-- in a prefix of a list, no more elements pass a test than in the whole list
pub fewer : {X : Type 0} (p : X → Bool) (xs ys : List X) (n : ℕ) → count_by p (xs ++ ys) ≤ n → count_by p xs ≤ n
fewer p xs ys n h = omega (arith, h, sum_by-append (λ x. one_if (p x)) xs ys)

-- a prefix of a list isn't longer than the whole list
pub shorter : {X : Type 0} (xs ys : List X) (n : ℕ) → length (xs ++ ys) ≤ n → length xs ≤ n
shorter xs ys n h = omega (arith, h, length-append xs ys)

-- types, tunables and devices come before buckets and rules: there is no rule yet, and each row is a device's
pub record IsEarly (d : Draft) : Type 0 where
  pub unruled : d.setting.rules ≡ []
  pub devices : All (λ (r : Row). r.kind ≡ 0) d.table

-- if there are no rules, each rule has its form
no_rules : (s : SettingData) → s.rules ≡ [] → All (IsRule s) s.rules
no_rules s none = subst (All (IsRule s)) (sym none) (All-nil (IsRule s))

-- if each row is a device's, each row has a type that the setting has
no_types : (s : SettingData) (t : List Row) → All (λ (r : Row). r.kind ≡ 0) t → All (HasKind s) t
no_types s t devices = All-weaker (λ (r : Row). r.kind ≡ 0) (HasKind s) (λ r none some. absurd (omega (arith, none, some))) t devices

-- the map without its last type is a map
pub kind_back : (d : Draft) (n : ℕ) (x : List ℕ) → IsEarly d → IsMap (with_kind d n x) → IsMap d
kind_back d n x early m =
    let s : SettingData = d.setting in
    let last : List KindData = record { number = n; name = x } ∷ [] in
    let f = m.fits in
    record {
      lawful = m.lawful;
      fits = record {
        setting = record {
          numbers = λ k. fewer (λ (y : KindData). y.number == k) s.kinds last 1 (f.setting.numbers k);
          names = λ k. fewer (λ (y : KindData). bytes_eq y.name k) s.kinds last 1 (f.setting.names k);
          tunable_names = f.setting.tunable_names;
          rule_names = f.setting.rule_names;
          rule_ids = f.setting.rule_ids;
          kinds = All-left IsKind s.kinds last f.setting.kinds;
          tunables = f.setting.tunables;
          rules = no_rules s early.unruled;
          few_kinds = shorter s.kinds last MOST_TYPES f.setting.few_kinds;
          few_tunables = f.setting.few_tunables;
          few_rules = f.setting.few_rules;
        };
        types = no_types s d.table early.devices;
        taken = f.taken;
      };
    }

-- the map without its last tunable is a map
pub tunable_back : (d : Draft) (x : List ℕ) (v : ℕ) → IsEarly d → IsMap (with_tunable d x v) → IsMap d
tunable_back d x v early m =
    let s : SettingData = d.setting in
    let last : List TunableData = record { name = x; value = v } ∷ [] in
    let f = m.fits in
    record {
      lawful = m.lawful;
      fits = record {
        setting = record {
          numbers = f.setting.numbers;
          names = f.setting.names;
          tunable_names = λ k. fewer (λ (y : TunableData). bytes_eq y.name k) s.tunables last 1 (f.setting.tunable_names k);
          rule_names = f.setting.rule_names;
          rule_ids = f.setting.rule_ids;
          kinds = f.setting.kinds;
          tunables = All-left IsTunable s.tunables last f.setting.tunables;
          rules = no_rules s early.unruled;
          few_kinds = f.setting.few_kinds;
          few_tunables = shorter s.tunables last MOST_TUNABLES f.setting.few_tunables;
          few_rules = f.setting.few_rules;
        };
        types = f.types;
        taken = f.taken;
      };
    }

-- a rule keeps its form without the rules after it
rule_before : (d : Draft) (r x : RuleData) → IsRule (add_rule d r).setting x → IsRule d.setting x
rule_before d r x h = rule_kept (add_rule d r).setting d.setting.rules x h

-- the map without its last rule is a map, if the table has the buckets that its rules take
pub rule_back : (d : Draft) (r : RuleData) → All (IsThere d.table) (taken_buckets d.setting) → IsMap (add_rule d r) → IsMap d
rule_back d r taken m =
    let s : SettingData = d.setting in
    let last : List RuleData = r ∷ [] in
    let f = m.fits in
    record {
      lawful = m.lawful;
      fits = record {
        setting = record {
          numbers = f.setting.numbers;
          names = f.setting.names;
          tunable_names = f.setting.tunable_names;
          rule_names = λ k. fewer (λ (y : RuleData). bytes_eq y.name k) s.rules last 1 (f.setting.rule_names k);
          rule_ids = λ k. fewer (λ (y : RuleData). y.id == k) s.rules last 1 (f.setting.rule_ids k);
          kinds = f.setting.kinds;
          tunables = f.setting.tunables;
          rules = All-weaker (IsRule (add_rule d r).setting) (IsRule s) (rule_before d r) s.rules (All-left (IsRule (add_rule d r).setting) s.rules last f.setting.rules);
          few_kinds = f.setting.few_kinds;
          few_tunables = f.setting.few_tunables;
          few_rules = shorter s.rules last MOST_RULES f.setting.few_rules;
        };
        types = f.types;
        taken = taken;
      };
    }

-- the map whose last rule lacks its last step is a map
pub step_back : (d : Draft) (r : RuleData) (x : StepData) → IsMap d → All (IsThere d.table) (taken_by r) → IsMap (add_rule d (with_step r x)) → IsMap (add_rule d r)
step_back d r x map taken m =
    let free = rule_free d (with_step r x) m in
    let rule = rule_before d (with_step r x) (with_step r x) free.rule in
    let can : CanAdd d r = record {
      rule = record {
        name = rule.name;
        id = rule.id;
        kind = rule.kind;
        min_size = rule.min_size;
        max_size = rule.max_size;
        few = shorter r.steps (x ∷ []) MOST_STEPS rule.few;
        steps = All-left (IsStep d.setting) r.steps (x ∷ []) rule.steps;
      };
      name = free.name;
      id = free.id;
      few = free.few;
      taken = taken;
    } in
    map_with_rule d r map can
