-- Lemmas about a rule that is read line by line: if the map may have the rule with a line, then it may have the rule without that line.
use Rattle.std.proofs.Common.{◌≡◌, ℕ, ◌<◌, ◌≤◌, false, List, [], ◌∷◌, ◌++◌, Option, length, sym, subst, arith, length-append}
use Rattle.std.proofs.lemmas.Bool.{eqb-true}
use Rattle.std.proofs.lemmas.Grind.{flat_map-append}
use Rattle.std.proofs.lemmas.List.Elements.{All-nil, All-push, All-append, All-weaker}
use Rattle.std.proofs.lemmas.Slice.Eq.{bytes_eq-Decides}
use Rattle.std.specs.Prelude.{◌==◌, All, IfSome, bytes_eq, flat_map}
use Rattle.std.specs.List.{list_any}
use Rattle.crush_units.specs.Name.{IsName}
use Rattle.crush_units.specs.declared.limits.TheConstants.{LARGEST_RULE_NUMBER, MOST_RULES, MOST_STEPS}
use Rattle.crush_edits.specs.Setting.{StepData, RuleData, SettingData, bucket_taken}
use Rattle.crush_edits.specs.Fits.{IsStep, IsRule, IsThere}
use Rattle.crush_builder.specs.Built.{Draft, add_rule}
use Rattle.crush_builder.specs.Rules.{has_rule_name, has_rule_id, is_full_of_rules}
use Rattle.crush_builder.proofs.KindSteps.{count_one_more, less}
use Rattle.crush_builder.proofs.RuleSteps.{rule_kept}
use Rattle.crush_text.specs.Grammar.{new_rule, with_step}
use Rattle.crush_text.specs.Document.{IsMap}

-- the buckets that a rule takes
abbrev pub taken_by : RuleData → List ℕ
taken_by r = flat_map bucket_taken r.steps

-- WHAT A RULE must meet so that the map can have it as its next rule
pub record CanAdd (d : Draft) (r : RuleData) : Type 0 where
  pub rule : IsRule d.setting r
  pub name : has_rule_name d.setting r.name ≡ false
  pub id : has_rule_id d.setting r.id ≡ false
  pub few : is_full_of_rules d ≡ false
  pub taken : All (IsThere d.table) (taken_by r)

-- the map with the rule is lawful
pub map_with_rule : (d : Draft) (r : RuleData) → IsMap d → CanAdd d r → IsMap (add_rule d r)
map_with_rule d r m c =
    let s : SettingData = d.setting in
    let rs : List RuleData = s.rules ++ r ∷ [] in
    let f = m.fits in
    record {
      lawful = m.lawful;
      fits = record {
        setting = record {
          numbers = f.setting.numbers;
          names = f.setting.names;
          tunable_names = f.setting.tunable_names;
          rule_names = λ n. count_one_more (λ (x : RuleData). bytes_eq x.name n) r s.rules (f.setting.rule_names n) (λ e. subst (λ l. list_any (λ (x : RuleData). bytes_eq x.name l) s.rules ≡ false) ((bytes_eq-Decides r.name n).0 e) c.name);
          rule_ids = λ n. count_one_more (λ (x : RuleData). x.id == n) r s.rules (f.setting.rule_ids n) (λ e. subst (λ l. list_any (λ (x : RuleData). x.id == l) s.rules ≡ false) (eqb-true r.id n e) c.id);
          kinds = f.setting.kinds;
          tunables = f.setting.tunables;
          rules = All-push (IsRule (record s { rules = rs })) s.rules r (All-weaker (IsRule s) (IsRule (record s { rules = rs })) (rule_kept s rs) s.rules f.setting.rules) (rule_kept s rs r c.rule);
          few_kinds = f.setting.few_kinds;
          few_tunables = f.setting.few_tunables;
          few_rules = let small : length s.rules < MOST_RULES = less MOST_RULES (length s.rules) c.few in omega (arith, length-append s.rules (r ∷ []));
        };
        types = f.types;
        taken = subst (All (IsThere d.table)) (sym (flat_map-append taken_by s.rules (r ∷ [])))
            (All-append (IsThere d.table) (flat_map taken_by s.rules) (taken_by r ++ []) f.taken (All-append (IsThere d.table) (taken_by r) [] c.taken (All-nil (IsThere d.table))));
      };
    }

-- a rule with only its head can be added
pub can_begin : (d : Draft) (x : List ℕ) (n : ℕ) (k : List ℕ) (least most : Option ℕ) → IsName x → n ≤ LARGEST_RULE_NUMBER → IsName k → IfSome least (λ v. v ≤ LARGEST_RULE_NUMBER) → IfSome most (λ v. v ≤ LARGEST_RULE_NUMBER) → has_rule_name d.setting x ≡ false → has_rule_id d.setting n ≡ false → is_full_of_rules d ≡ false → CanAdd d (new_rule x n k least most)
can_begin d x n k least most form small kind low high name id few = record {
  rule = record { name = form; id = small; kind = kind; min_size = low; max_size = high; few = omega arith; steps = All-nil (IsStep d.setting) };
  name = name;
  id = id;
  few = few;
  taken = All-nil (IsThere d.table);
}

-- a rule with one more step can be added
pub can_step : (d : Draft) (r : RuleData) (s : StepData) → CanAdd d r → IsStep d.setting s → length r.steps < MOST_STEPS → All (IsThere d.table) (bucket_taken s) → CanAdd d (with_step r s)
can_step d r s c form room there = record {
  rule = record {
    name = c.rule.name;
    id = c.rule.id;
    kind = c.rule.kind;
    min_size = c.rule.min_size;
    max_size = c.rule.max_size;
    few = omega (arith, room, length-append r.steps (s ∷ []));
    steps = All-push (IsStep d.setting) r.steps s c.rule.steps form;
  };
  name = c.name;
  id = c.id;
  few = c.few;
  taken = subst (All (IsThere d.table)) (sym (flat_map-append bucket_taken r.steps (s ∷ [])))
      (All-append (IsThere d.table) (taken_by r) (bucket_taken s ++ []) c.taken (All-append (IsThere d.table) (bucket_taken s) [] there (All-nil (IsThere d.table))));
}
