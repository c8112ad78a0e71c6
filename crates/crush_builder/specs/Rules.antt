-- A rule that is added to a builder: the form that it must have, its faults, and the form in which a map stores it.
use Rattle.std.specs.Prelude.{ℕ, ◌+◌, ◌≤◌, List, [], ◌∷◌, Option, Some, None, Bool, ◌==◌, if◌then◌else◌, IfSome, All, map, length, bytes_eq, is_some, nat_le, option_and_then}
use Rattle.std.specs.List.{list_any}
use Rattle.crush_units.specs.declared.limits.TheConstants.{LARGEST_RULE_NUMBER, MOST_RULES, MOST_STEPS}
use Rattle.crush_units.specs.Name.{IsName}
use Rattle.crush_edits.specs.Setting.{StepData, take, choose, set, emit, RuleData, SettingData, kind_number}
use Rattle.crush_edits.specs.Fits.{IsCount, IsSet}
use Rattle.crush_edits.specs.Stops.{number_of}
use Rattle.crush_edits.specs.declared.rule.Rule.{Rule}
use Rattle.crush_edits.specs.declared.rule.Step.{Step}
use Rattle.crush_edits.specs.declared.rule.Step.TheVariants.{Take, Choose, Set, Emit}
use Rattle.crush_builder.specs.declared.fault.BuildFault.{BuildFault}
use Rattle.crush_builder.specs.declared.fault.BuildFault.TheVariants.{DuplicateId, DuplicateName, UnknownType, UnknownBucketInRule, TooMany}
use Rattle.crush_builder.specs.declared.fault.RuleFault.{RuleFault}
use Rattle.crush_builder.specs.declared.fault.RulePart.{RulePart}
use Rattle.crush_builder.specs.declared.fault.RulePart.TheVariants.{Statement as AtStatement, Name as AtName, Id as AtId, Step as AtStep}
use Rattle.crush_builder.specs.Built.{Draft, add_rule}
use Rattle.crush_builder.specs.Building.{item_named}
use Rattle.crush_builder.specs.Faults.{fault_told}

-- THE FORM of a rule's words and numbers, which a parser of the text ensures and the builder requires
-- the form of a step: a class has the form of a name, a count fits a signed 32-bit number, and the word and the value of a step that sets a value have the form that `IsSet` requires
abbrev pub IsStepForm : Step → Type 0
IsStepForm (Take name class) = IfSome class IsName
IsStepForm (Choose leaf firstn count kind) = IsCount count
IsStepForm (Set word value) = IsSet word value
IsStepForm Emit = Unit {0}

-- the form of a rule: its names have the form of a name, its numbers are in range, and each step has its form
pub record IsRuleForm (r : Rule) : Type 0 where
  pub name : IsName r.name
  pub id : r.id ≤ LARGEST_RULE_NUMBER
  pub kind : IsName r.kind
  pub min_size : IfSome r.min_size (λ n. n ≤ LARGEST_RULE_NUMBER)
  pub max_size : IfSome r.max_size (λ n. n ≤ LARGEST_RULE_NUMBER)
  pub steps : All IsStepForm r.steps.items

-- the id of the complete bucket with this name; none if a device, an incomplete bucket or no item has the name
abbrev pub complete_bucket_named : Draft → List ℕ → Option ℕ
complete_bucket_named d n = option_and_then number_of (item_named d n)

-- WHAT A MAP STORES: the id of a bucket replaces the bucket's name
-- the id that a map stores, or 0 if there is no such bucket, which can't happen in a rule without faults
abbrev pub taken_number : Option ℕ → ℕ
taken_number None = 0
taken_number (Some b) = b

-- the step in the form in which a map stores it
abbrev pub kept_step : Draft → Step → StepData
kept_step d (Take name class) = take (taken_number (complete_bucket_named d name)) class
kept_step d (Choose leaf firstn count kind) = choose leaf firstn count kind
kept_step d (Set word value) = set word value
kept_step d Emit = emit

-- the rule in the form in which a map stores it
abbrev pub kept_rule : Draft → Rule → RuleData
kept_rule d r = record { name = r.name; id = r.id; kind = r.kind; min_size = r.min_size; max_size = r.max_size; steps = map (kept_step d) r.steps.items }

-- the draft after the rule is added at the end of the rules
abbrev pub with_rule : Draft → Rule → Draft
with_rule d r = add_rule d (kept_rule d r)

-- THE FAULTS, each at its part, in the order of the parts
-- whether a rule has this name
abbrev pub has_rule_name : SettingData → List ℕ → Bool
has_rule_name s n = list_any (λ (x : RuleData). bytes_eq x.name n) s.rules

-- whether a rule has this id
abbrev pub has_rule_id : SettingData → ℕ → Bool
has_rule_id s k = list_any (λ (x : RuleData). x.id == k) s.rules

-- whether there are already as many rules as the limit allows
abbrev pub is_full_of_rules : Draft → Bool
is_full_of_rules d = nat_le MOST_RULES (length d.setting.rules)

-- the fault that a step has at any position in a rule: it takes a name that no complete bucket has, or it chooses a type that the setting doesn't have
abbrev pub word_fault : Draft → Step → Option BuildFault
word_fault d (Take name class) = if is_some (complete_bucket_named d name) then None else Some UnknownBucketInRule
word_fault d (Choose leaf firstn count kind) = if is_some (kind_number d.setting kind) then None else Some UnknownType
word_fault d (Set word value) = None
word_fault d Emit = None

-- the fault of the step that has k steps before it: too many steps, or otherwise the fault that the step has at any position
abbrev pub step_fault : Draft → ℕ → Step → Option BuildFault
step_fault d k x = if nat_le MOST_STEPS k then Some TooMany else word_fault d x

-- the fault at part p, if there is one, and otherwise the fault of the later parts
abbrev pub or_later : RulePart → Option BuildFault → Option RuleFault → Option RuleFault
or_later p None later = later
or_later p (Some f) later = Some (record { part = p; fault = f })

-- the fault of the first faulty step of a list that follows k other steps
abbrev pub steps_fault : Draft → ℕ → List Step → Option RuleFault
steps_fault d k [] = None
steps_fault d k (x ∷ xs) = or_later (AtStep k) (step_fault d k x) (steps_fault d (k + 1) xs)

-- the first fault of a rule: there are too many rules, its name is taken, its id is taken, or a step has a fault
abbrev pub rule_fault : Draft → Rule → Option RuleFault
rule_fault d r =
    if is_full_of_rules d then Some (record { part = AtStatement; fault = TooMany })
    else (if has_rule_name d.setting r.name then Some (record { part = AtName; fault = DuplicateName })
    else (if has_rule_id d.setting r.id then Some (record { part = AtId; fault = DuplicateId })
    else steps_fault d 0 r.steps.items))

-- what a returned fault says about the rule: it is the first fault of the rule. If the returned fault is OutOfMemory, the rule has no fault
abbrev pub rule_told : RuleFault → Option RuleFault
rule_told f = if is_some (fault_told f.fault) then Some f else None
