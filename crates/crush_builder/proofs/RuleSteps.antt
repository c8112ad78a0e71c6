-- Adding a rule to the setting.
use Rattle.std.proofs.Common.{◌≡◌, ℕ, ◌+◌, ◌<◌, ◌≤◌, Bool, true, false, List, [], ◌∷◌, ◌++◌, length, refl, ap, sym, subst, ◌∙◌, arith, length-append}
use Rattle.std.proofs.lemmas.List.{length-map}
use Rattle.std.proofs.lemmas.List.Elements.{All-nil, All-cons, All-head, All-tail, All-push, All-append, All-weaker, All-map}
use Rattle.std.proofs.lemmas.Grind.{flat_map-append}
use Rattle.std.proofs.lemmas.Slice.Eq.{bytes_eq-Decides}
use Rattle.std.proofs.lemmas.Bool.{eqb-true}
use Rattle.std.specs.Prelude.{Option, Some, None, nat_le, ◌||◌, ◌==◌, bytes_eq, map, flat_map, All, is_some, if◌then◌else◌, option_and_then}
use Rattle.std.specs.List.{list_any}
use Rattle.crush_units.specs.declared.limits.TheConstants.{MOST_RULES, MOST_STEPS}
use Rattle.crush_units.specs.declared.id.ItemId.{ItemId}
use Rattle.crush_units.specs.declared.id.ItemId.TheVariants.{Device, Bucket}
use Rattle.crush_model.specs.Table.{id_named}
use Rattle.crush_edits.specs.Setting.{StepData, take, choose, set, emit, RuleData, SettingData, kind_number, bucket_taken}
use Rattle.crush_edits.specs.SettingSeen.{rule_data}
use Rattle.crush_edits.specs.Stops.{number_of}
use Rattle.crush_edits.specs.declared.setting.KeptRule.{KeptRule}
use Rattle.crush_edits.specs.declared.rule.Rule.{Rule}
use Rattle.crush_edits.specs.declared.rule.Step.{Step}
use Rattle.crush_edits.specs.declared.rule.Step.TheVariants.{Take, Choose, Set, Emit}
use Rattle.crush_edits.specs.Fits.{IsStep, IsRule, IsThere, Fits}
use Rattle.crush_builder.specs.declared.fault.BuildFault.{BuildFault}
use Rattle.crush_builder.specs.declared.fault.BuildFault.TheVariants.{UnknownType, UnknownBucketInRule, TooMany, DuplicateName, DuplicateId, OutOfMemory}
use Rattle.crush_builder.specs.declared.fault.RuleFault.{RuleFault}
use Rattle.crush_builder.specs.declared.fault.RulePart.{RulePart}
use Rattle.crush_builder.specs.declared.fault.RulePart.TheVariants.{Statement as AtStatement, Name as AtName, Id as AtId, Step as AtStep}
use Rattle.crush_builder.specs.Faults.{fault_told}
use Rattle.crush_builder.specs.Built.{Draft, nothing}
use Rattle.crush_builder.specs.Building.{BuilderData, IsDraft, IsPending, closed_item, is_open}
use Rattle.crush_builder.specs.Rules.{IsStepForm, IsRuleForm, complete_bucket_named, taken_number, kept_step, kept_rule, with_rule, has_rule_name, has_rule_id, is_full_of_rules, word_fault, step_fault, or_later, steps_fault, rule_fault, rule_told}
use Rattle.crush_builder.proofs.KindSteps.{count_one_more, less}
use Rattle.crush_apply.proofs.Found.{there_by_name}

-- looking up a name or an id in the code's list of rules has the same result as in the list that contracts see
pub rule_name_found : (n : List ℕ) (xs : List KeptRule) → list_any (λ (x : KeptRule). bytes_eq x.name n) xs ≡ list_any (λ (x : RuleData). bytes_eq x.name n) (map rule_data xs)
rule_name_found n [] = refl
rule_name_found n (x ∷ xs) = ap (λ b. bytes_eq x.name n || b) (rule_name_found n xs)

pub rule_id_found : (n : ℕ) (xs : List KeptRule) → list_any (λ (x : KeptRule). x.id == n) xs ≡ list_any (λ (x : RuleData). x.id == n) (map rule_data xs)
rule_id_found n [] = refl
rule_id_found n (x ∷ xs) = ap (λ b. (x.id == n) || b) (rule_id_found n xs)

-- A RULE WITHOUT FAULTS: what is true of its parts
not_some : {X : Type 0} (x : X) (o : Option X) → o ≡ Some x → o ≡ None → ⊥
not_some x o e h = let no : ◌≡◌ {A = Option _} (Some x) None = sym e ∙ h in cc

if_none : {X : Type 0} (b : Bool) (x : X) (o : Option X) → (if b then Some x else o) ≡ None → (b ≡ false) × (o ≡ None)
if_none true x o h = absurd (let no : ◌≡◌ {A = Option _} (Some x) None = h in cc)
if_none false x o h = (refl, h)

or_later_none : (p : _) (o : Option BuildFault) (later : Option RuleFault) → or_later p o later ≡ None → (o ≡ None) × (later ≡ None)
or_later_none p None later h = (refl, h)
or_later_none p (Some f) later h = absurd (let no : ◌≡◌ {A = Option RuleFault} (Some (record { part = p; fault = f })) None = h in cc)

pub words_clear : (d : Draft) (k : ℕ) (xs : List Step) → steps_fault d k xs ≡ None → All (λ x. word_fault d x ≡ None) xs
words_clear d k [] h = All-nil (λ x. word_fault d x ≡ None)
words_clear d k (x ∷ xs) h =
    let one = or_later_none _ (step_fault d k x) (steps_fault d (k + 1) xs) h in
    All-cons (λ y. word_fault d y ≡ None) x xs (if_none (nat_le MOST_STEPS k) TooMany (word_fault d x) one.0).1 (words_clear d (k + 1) xs one.1)

pub steps_few : (d : Draft) (k : ℕ) (xs : List Step) → k ≤ MOST_STEPS → steps_fault d k xs ≡ None → k + length xs ≤ MOST_STEPS
steps_few d k [] le h = omega (arith, le)
steps_few d k (x ∷ xs) le h =
    let one = or_later_none _ (step_fault d k x) (steps_fault d (k + 1) xs) h in
    let small : k < MOST_STEPS = less MOST_STEPS k (if_none (nat_le MOST_STEPS k) TooMany (word_fault d x) one.0).0 in
    let rest : (k + 1) + length xs ≤ MOST_STEPS = steps_few d (k + 1) xs (omega (arith, small)) one.1 in
    omega (arith, rest)

pub record IsClearRule (d : Draft) (r : Rule) : Type 0 where
  pub few : is_full_of_rules d ≡ false
  pub name : has_rule_name d.setting r.name ≡ false
  pub id : has_rule_id d.setting r.id ≡ false
  pub words : All (λ x. word_fault d x ≡ None) r.steps.items
  pub short : length r.steps.items ≤ MOST_STEPS

pub rule_clear : (d : Draft) (r : Rule) → rule_fault d r ≡ None → IsClearRule d r
rule_clear d r h =
    let a = if_none (is_full_of_rules d) _ _ h in
    let b = if_none (has_rule_name d.setting r.name) _ _ a.1 in
    let e = if_none (has_rule_id d.setting r.id) _ _ b.1 in
    record { few = a.0; name = b.0; id = e.0; words = words_clear d 0 r.steps.items e.1; short = let n = steps_few d 0 r.steps.items (omega arith) e.1 in omega (arith, n) }

-- a rule keeps its form when another rule is added
step_kept : (s : SettingData) (rs : List RuleData) (x : StepData) → IsStep s x → IsStep (record s { rules = rs }) x
step_kept s rs (take b class) h = h
step_kept s rs (choose leaf firstn count kind) h = record { range = h.range; known = h.known }
step_kept s rs (set word value) h = h
step_kept s rs emit h = h

pub rule_kept : (s : SettingData) (rs : List RuleData) (r : RuleData) → IsRule s r → IsRule (record s { rules = rs }) r
rule_kept s rs r h = record {
  name = h.name;
  id = h.id;
  kind = h.kind;
  min_size = h.min_size;
  max_size = h.max_size;
  few = h.few;
  steps = All-weaker (IsStep s) (IsStep (record s { rules = rs })) (step_kept s rs) r.steps h.steps;
}

-- THE RULE THAT THE MAP STORES has the form of a rule
some_if : {X : Type 0} (b : Bool) (x : X) → (if b then None else Some x) ≡ None → b ≡ true
some_if true x h = refl
some_if false x h = absurd (let no : ◌≡◌ {A = Option _} (Some x) None = h in cc)

abbrev Words : Draft → Step → Type 0
Words d x = word_fault d x ≡ None

step_form : (d : Draft) (x : Step) → IsStepForm x → Words d x → IsStep d.setting (kept_step d x)
step_form d (Take name class) f h = f
step_form d (Choose leaf firstn count kind) f h = record { range = f; known = some_if (is_some (kind_number d.setting kind)) UnknownType h }
step_form d (Set word value) f h = f
step_form d Emit f h = f

steps_form : (d : Draft) (xs : List Step) → All IsStepForm xs → All (Words d) xs → All (λ x. IsStep d.setting (kept_step d x)) xs
steps_form d [] f h = All-nil (λ x. IsStep d.setting (kept_step d x))
steps_form d (x ∷ xs) f h = All-cons (λ y. IsStep d.setting (kept_step d y)) x xs
    (step_form d x (All-head IsStepForm x xs f) (All-head (Words d) x xs h))
    (steps_form d xs (All-tail IsStepForm x xs f) (All-tail (Words d) x xs h))

rule_form : (d : Draft) (r : Rule) → IsRuleForm r → IsClearRule d r → IsRule d.setting (kept_rule d r)
rule_form d r f c = record {
  name = f.name;
  id = f.id;
  kind = f.kind;
  min_size = f.min_size;
  max_size = f.max_size;
  few = subst (λ n. n ≤ MOST_STEPS) (sym (length-map r.steps.items (kept_step d))) c.short;
  steps = All-map (IsStep d.setting) (kept_step d) r.steps.items (steps_form d r.steps.items f.steps c.words);
}

-- THE BUCKETS that the rule takes are in the table
bucket_there : (d : Draft) (n : List ℕ) (o : Option ItemId) → id_named d.table n ≡ o → is_some (option_and_then number_of (option_and_then (closed_item d.pending) o)) ≡ true → IsThere d.table (taken_number (option_and_then number_of (option_and_then (closed_item d.pending) o)))
bucket_there d n None e h = absurd (let no : false ≡ true = h in cc)
bucket_there d n (Some i) e h = by_open (is_open d.pending i) i e h where
  by_open : (b : Bool) (j : ItemId) → id_named d.table n ≡ Some j → is_some (option_and_then number_of (if b then None else Some j)) ≡ true → IsThere d.table (taken_number (option_and_then number_of (if b then None else Some j)))
  by_open true j q k = absurd (let no : false ≡ true = k in cc)
  by_open false (Device x) q k = absurd (let no : false ≡ true = k in cc)
  by_open false (Bucket b) q k = there_by_name d.table n (Bucket b) q

step_there : (d : Draft) (x : Step) → Words d x → All (IsThere d.table) (bucket_taken (kept_step d x))
step_there d (Take name class) h =
    All-cons (IsThere d.table) (taken_number (complete_bucket_named d name)) [] (bucket_there d name (id_named d.table name) refl (some_if (is_some (complete_bucket_named d name)) UnknownBucketInRule h)) (All-nil (IsThere d.table))
step_there d (Choose leaf firstn count kind) h = All-nil (IsThere d.table)
step_there d (Set word value) h = All-nil (IsThere d.table)
step_there d Emit h = All-nil (IsThere d.table)

steps_there : (d : Draft) (xs : List Step) → All (Words d) xs → All (IsThere d.table) (flat_map bucket_taken (map (kept_step d) xs))
steps_there d [] h = All-nil (IsThere d.table)
steps_there d (x ∷ xs) h =
    All-append (IsThere d.table) (bucket_taken (kept_step d x)) (flat_map bucket_taken (map (kept_step d) xs)) (step_there d x (All-head (Words d) x xs h)) (steps_there d xs (All-tail (Words d) x xs h))

rules_there : (P : ℕ → Type 0) (rs : List RuleData) (r : RuleData) → All P (flat_map (λ (x : RuleData). flat_map bucket_taken x.steps) rs) → All P (flat_map bucket_taken r.steps) → All P (flat_map (λ (x : RuleData). flat_map bucket_taken x.steps) (rs ++ r ∷ []))
rules_there P rs r h k =
    subst (All P) (sym (flat_map-append (λ (x : RuleData). flat_map bucket_taken x.steps) rs (r ∷ [])))
    (All-append P (flat_map (λ (x : RuleData). flat_map bucket_taken x.steps) rs) (flat_map bucket_taken r.steps ++ []) h (All-append P (flat_map bucket_taken r.steps) [] k (All-nil P)))

-- the setting with one more rule fits the table
pub Fits-with_rule : (d : Draft) (r : Rule) → Fits d.setting d.table → IsRuleForm r → IsClearRule d r → Fits (with_rule d r).setting d.table
Fits-with_rule d r f form c =
    let k : RuleData = kept_rule d r in
    let s : SettingData = d.setting in
    let rs : List RuleData = s.rules ++ k ∷ [] in
    record {
      setting = record {
        numbers = f.setting.numbers;
        names = f.setting.names;
        tunable_names = f.setting.tunable_names;
        rule_names = λ n. count_one_more (λ (x : RuleData). bytes_eq x.name n) k s.rules (f.setting.rule_names n) (λ e. subst (λ m. list_any (λ (x : RuleData). bytes_eq x.name m) s.rules ≡ false) ((bytes_eq-Decides k.name n).0 e) c.name);
        rule_ids = λ n. count_one_more (λ (x : RuleData). x.id == n) k s.rules (f.setting.rule_ids n) (λ e. subst (λ m. list_any (λ (x : RuleData). x.id == m) s.rules ≡ false) (eqb-true k.id n e) c.id);
        kinds = f.setting.kinds;
        tunables = f.setting.tunables;
        rules = All-push (IsRule (record s { rules = rs })) s.rules k (All-weaker (IsRule s) (IsRule (record s { rules = rs })) (rule_kept s rs) s.rules f.setting.rules) (rule_kept s rs k (rule_form d r form c));
        few_kinds = f.setting.few_kinds;
        few_tunables = f.setting.few_tunables;
        few_rules = let small : length s.rules < MOST_RULES = less MOST_RULES (length s.rules) c.few in omega (arith, length-append s.rules (k ∷ []));
      };
      types = f.types;
      taken = rules_there (IsThere d.table) s.rules k f.taken (steps_there d r.steps.items c.words);
    }

-- THE STEP: the builder represents the draft with one more rule
pub rule_step : (b : BuilderData) (s : SettingData) (d : Draft) (r : Rule) → IsDraft b d → b.pending ≡ nothing → s ≡ record b.setting { rules = b.setting.rules ++ kept_rule d r ∷ [] } → IsRuleForm r → rule_fault d r ≡ None → IsDraft (record b { setting = s }) (with_rule d r)
rule_step b s d r i idle e form clear = record {
  setting = e ∙ (λ j. record (i.setting j) { rules = (i.setting j).rules ++ kept_rule d r ∷ [] });
  pending = i.pending;
  adjusted = i.adjusted;
  few = i.few;
  stands = i.stands;
  fits = Fits-with_rule d r i.fits form (rule_clear d r clear);
  part = subst (IsPending (with_rule d r).setting d.table) (sym (sym i.pending ∙ idle)) tt;
}

-- THE FAULT of a rule: `rule_told` returns the fault itself, because it isn't OutOfMemory
abbrev IsTold : BuildFault → Type 0
IsTold f = is_some (fault_told f) ≡ true

else_told : (b : Bool) (x f : BuildFault) → IsTold x → (if b then None else Some x) ≡ Some f → IsTold f
else_told true x f t e = absurd (let no : ◌≡◌ {A = Option BuildFault} None (Some f) = e in cc)
else_told false x f t e = let same : x ≡ f = cc in subst IsTold same t

word_told : (d : Draft) (x : Step) (f : BuildFault) → word_fault d x ≡ Some f → IsTold f
word_told d (Take name class) f e = else_told (is_some (complete_bucket_named d name)) UnknownBucketInRule f refl e
word_told d (Choose leaf firstn count kind) f e = else_told (is_some (kind_number d.setting kind)) UnknownType f refl e
word_told d (Set word value) f e = absurd (let no : ◌≡◌ {A = Option BuildFault} None (Some f) = e in cc)
word_told d Emit f e = absurd (let no : ◌≡◌ {A = Option BuildFault} None (Some f) = e in cc)

if_told : (b : Bool) (x : BuildFault) (o : Option BuildFault) (f : BuildFault) → IsTold x → (o ≡ Some f → IsTold f) → (if b then Some x else o) ≡ Some f → IsTold f
if_told true x o f t h e = let same : x ≡ f = cc in subst IsTold same t
if_told false x o f t h e = h e

part_told : (b : Bool) (x : RuleFault) (o : Option RuleFault) (f : RuleFault) → IsTold x.fault → (o ≡ Some f → IsTold f.fault) → (if b then Some x else o) ≡ Some f → IsTold f.fault
part_told true x o f t h e = let same : x ≡ f = cc in subst (λ (y : RuleFault). IsTold y.fault) same t
part_told false x o f t h e = h e

later_told : (p : RulePart) (o : Option BuildFault) (later : Option RuleFault) (f : RuleFault) → ((g : BuildFault) → o ≡ Some g → IsTold g) → (later ≡ Some f → IsTold f.fault) → or_later p o later ≡ Some f → IsTold f.fault
later_told p None later f h k e = k e
later_told p (Some g) later f h k e = part_told true (record { part = p; fault = g }) later f (h g refl) k e

steps_told : (d : Draft) (k : ℕ) (xs : List Step) (f : RuleFault) → steps_fault d k xs ≡ Some f → IsTold f.fault
steps_told d k [] f e = absurd (let no : ◌≡◌ {A = Option RuleFault} None (Some f) = e in cc)
steps_told d k (x ∷ xs) f e = later_told (AtStep k) (step_fault d k x) (steps_fault d (k + 1) xs) f (λ g. if_told (nat_le MOST_STEPS k) TooMany (word_fault d x) g refl (word_told d x g)) (steps_told d (k + 1) xs f) e

pub rule_told_itself : (d : Draft) (r : Rule) (f : RuleFault) → rule_fault d r ≡ Some f → rule_fault d r ≡ rule_told f
rule_told_itself d r f e =
    let t : IsTold f.fault =
    part_told (is_full_of_rules d) (record { part = AtStatement; fault = TooMany }) _ f refl
    (part_told (has_rule_name d.setting r.name) (record { part = AtName; fault = DuplicateName }) _ f refl
    (part_told (has_rule_id d.setting r.id) (record { part = AtId; fault = DuplicateId }) _ f refl (steps_told d 0 r.steps.items f))) e in
    e ∙ sym (ap (λ b. if b then Some f else None) t)

-- the fault of a rule is never OutOfMemory
pub never_lacking : (d : Draft) (r : Rule) (f : RuleFault) → rule_fault d r ≡ Some f → f.fault ≡ OutOfMemory → ⊥
never_lacking d r f e lacks =
    let none : rule_told f ≡ None = ap (λ x. if is_some (fault_told x) then Some f else None) lacks in
    let no : Some f ≡ None = sym e ∙ rule_told_itself d r f e ∙ none in
    cc

-- if a step that takes a name has no fault, then a bucket has the name
pub taken_named : (d : Draft) (name : List ℕ) (class : Option (List ℕ)) → complete_bucket_named d name ≡ None → word_fault d (Take name class) ≡ None → ⊥
taken_named d name class e h = let no : false ≡ true = sym (ap is_some e) ∙ some_if (is_some (complete_bucket_named d name)) UnknownBucketInRule h in cc
