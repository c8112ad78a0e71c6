-- Adding a tunable to the setting.
use Rattle.std.proofs.Common.{◌≡◌, ℕ, ◌<◌, false, List, [], ◌∷◌, ◌++◌, length, sym, subst, ◌∙◌, arith, length-append}
use Rattle.std.proofs.lemmas.Slice.Eq.{bytes_eq-Decides}
use Rattle.std.proofs.lemmas.List.Elements.{All-push, All-weaker}
use Rattle.std.specs.Prelude.{nat_le, bytes_eq}
use Rattle.std.specs.List.{list_any}
use Rattle.crush_units.specs.declared.limits.TheConstants.{MOST_TUNABLES}
use Rattle.crush_model.specs.Table.{Row}
use Rattle.crush_edits.specs.Setting.{TunableData, StepData, take, choose, set, emit, RuleData, SettingData, has_tunable}
use Rattle.crush_edits.specs.Fits.{IsTunable, IsStep, IsRule, Fits}
use Rattle.crush_builder.specs.Built.{Draft, nothing, with_tunable}
use Rattle.crush_builder.specs.Building.{BuilderData, IsDraft, IsPending, is_full_of_tunables}
use Rattle.crush_builder.proofs.KindSteps.{count_one_more, less}

-- a rule keeps its form when a tunable is added
step_kept : (s : SettingData) (k : TunableData) (x : StepData) → IsStep s x → IsStep (record s { tunables = s.tunables ++ k ∷ [] }) x
step_kept s k (take b class) h = h
step_kept s k (choose leaf firstn count kind) h = record { range = h.range; known = h.known }
step_kept s k (set word value) h = h
step_kept s k emit h = h

rule_kept : (s : SettingData) (k : TunableData) (r : RuleData) → IsRule s r → IsRule (record s { tunables = s.tunables ++ k ∷ [] }) r
rule_kept s k r h = record {
  name = h.name;
  id = h.id;
  kind = h.kind;
  min_size = h.min_size;
  max_size = h.max_size;
  few = h.few;
  steps = All-weaker (IsStep s) (IsStep (record s { tunables = s.tunables ++ k ∷ [] })) (step_kept s k) r.steps h.steps;
}

-- the setting with one more tunable fits the table
pub Fits-with_tunable : (s : SettingData) (t : List Row) (k : TunableData) → Fits s t → IsTunable k → list_any (λ (x : TunableData). bytes_eq x.name k.name) s.tunables ≡ false → nat_le MOST_TUNABLES (length s.tunables) ≡ false → Fits (record s { tunables = s.tunables ++ k ∷ [] }) t
Fits-with_tunable s t k f is name few = record {
  setting = record {
    numbers = f.setting.numbers;
    names = f.setting.names;
    tunable_names = λ n. count_one_more (λ (x : TunableData). bytes_eq x.name n) k s.tunables (f.setting.tunable_names n) (λ e. subst (λ m. list_any (λ (x : TunableData). bytes_eq x.name m) s.tunables ≡ false) ((bytes_eq-Decides k.name n).0 e) name);
    rule_names = f.setting.rule_names;
    rule_ids = f.setting.rule_ids;
    kinds = f.setting.kinds;
    tunables = All-push IsTunable s.tunables k f.setting.tunables is;
    rules = All-weaker (IsRule s) (IsRule (record s { tunables = s.tunables ++ k ∷ [] })) (rule_kept s k) s.rules f.setting.rules;
    few_kinds = f.setting.few_kinds;
    few_tunables = let small : length s.tunables < MOST_TUNABLES = less MOST_TUNABLES (length s.tunables) few in omega (arith, length-append s.tunables (k ∷ []));
    few_rules = f.setting.few_rules;
  };
  types = f.types;
  taken = f.taken;
}

-- THE STEP: the builder represents the draft with one more tunable
pub tunable_step : (b : BuilderData) (s : SettingData) (d : Draft) (n : List ℕ) (v : ℕ) → IsDraft b d → b.pending ≡ nothing → s ≡ record b.setting { tunables = b.setting.tunables ++ record { name = n; value = v } ∷ [] } → IsTunable (record { name = n; value = v }) → has_tunable d.setting n ≡ false → is_full_of_tunables d ≡ false →
    IsDraft (record b { setting = s }) (with_tunable d n v)
tunable_step b s d n v i idle e is name few = record {
  setting = e ∙ (λ j. record (i.setting j) { tunables = (i.setting j).tunables ++ record { name = n; value = v } ∷ [] });
  pending = i.pending;
  adjusted = i.adjusted;
  few = i.few;
  stands = i.stands;
  fits = Fits-with_tunable d.setting d.table (record { name = n; value = v }) i.fits is name few;
  part = subst (IsPending (with_tunable d n v).setting d.table) (sym (sym i.pending ∙ idle)) tt;
}
