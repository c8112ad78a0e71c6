-- What the contracts of the functions that read a rule promise.
use Rattle.std.specs.Prelude.{◌≡◌, ℕ, ◌<◌, ◌≤◌, ◌-◌, slice_get, List, Option, Some, None, Result, Ok, Err, IfOk, IfSome, OnOk, length}
use Rattle.crush_edits.specs.declared.rule.Rule.{Rule}
use Rattle.crush_edits.specs.declared.rule.Step.{Step}
use Rattle.crush_edits.specs.Setting.{RuleData}
use Rattle.crush_builder.specs.Built.{Draft, add_rule}
use Rattle.crush_builder.specs.Building.{BuilderData, IsDraft}
use Rattle.crush_builder.specs.Rules.{IsStepForm, IsRuleForm, kept_rule, word_fault}
use Rattle.crush_text.specs.declared.fault.TextFault.{TextFault}
use Rattle.crush_units.specs.Words.{Text}
use Rattle.crush_text.specs.declared.reader.MapReader.{MapReader}
use Rattle.crush_units.specs.declared.limits.TheConstants.{LARGEST_RULE_NUMBER}
use Rattle.crush_text.specs.declared.expected.Optional.{Optional}
use Rattle.crush_text.specs.declared.expected.Optional.TheVariants.{Nothing}
use Rattle.crush_text.specs.Form.{second, ruled, at, passing, Form}
use Rattle.crush_text.specs.Grammar.{sizes_left, rule_line, line_forms}
use Rattle.crush_text.specs.Flow.{State, between, arrive, Reaches}
use Rattle.crush_text.specs.Room.{IsFreeRule}
use Rattle.crush_text.specs.Reads.{line_at, number_behind, left_by_step, behind_step, GivesOn, LeadsOn, Fails, FailsIn, GivesLine}

-- the optional part that could follow in a rule. If the rule has a last step, this is the part that the step has left out. If the rule has no step, this is the part with the sizes of pools that the rule's head has left out. The arguments are the last step, `min_size` and `max_size`
abbrev pub left_after : Option Step → Option ℕ → Option ℕ → Optional
left_after (Some s) least most = left_by_step s
left_after None least None = sizes_left least
left_after None least (Some most) = Nothing

-- the optional part that could follow after these steps. If there are no steps, this is the part with the sizes that the rule's head has left out
abbrev pub left_last : List Step → Option ℕ → Option ℕ → Optional
left_last steps least most = left_after (slice_get steps (length steps - 1)) least most

-- the optional part that could follow after the part of the rule r that was read
abbrev pub left_by : Rule → Optional
left_by r = left_last r.steps.items r.min_size r.max_size

-- what is true after a function has read a line of a rule, which has the form g. r is the rule after this line. If the function returned `None`, the line was a step, which is the last step of r and has left out the optional part k. If the function returned a place, the line was the rule's closing brace, and adding the rule r to the draft d gives the new draft. The reader reaches the place without a fault. If the function failed, its fault is as in `FailsIn`
abbrev pub StepGoes : Result (Option ℕ) TextFault → Draft → RuleData → Optional → Text → Form → Text → Type 0
StepGoes (Ok None) d r k rest g t = line_at d g t ≡ Ok (passing k (at (ruled r) d), rest)
StepGoes (Ok (Some place)) d r k rest g t = (line_at d g t ≡ Ok (at second (add_rule d r), rest)) × Reaches place (arrive d t.words g) t.words
StepGoes (Err f) d r k rest g t = FailsIn f d g t

-- the part of the rule r that was read can be added as a rule. Its words and numbers have the right form, no other rule has its name or its id, it has at most MOST_STEPS steps, and each bucket or type that a step names exists
pub record IsRightSoFar (b : BuilderData) (r : Rule) : Type 0 where
  pub form : IsRuleForm r
  pub free : (d : Draft) → IsDraft b d → IsFreeRule d r

-- THE HEAD of a rule was read, up to its first step. The rule that is returned can be added, and it is the rule that the words spell. The builder is unchanged
pub record ReadsHead {A : _} (old new : MapReader A) (x : Result Rule TextFault) : Type 0 where
  pub right : IfOk x (IsRightSoFar new.builder)
  pub gives : (d : Draft) → IsDraft old.builder d → GivesLine (λ r. (passing (left_by r) (at (ruled (kept_rule d r)) d), new.text)) x d (rule_line d) old.text
  pub kept : new.builder ≡ old.builder
  pub shorter : OnOk x (length new.text.words ≤ length old.text.words)

-- an optional size was read. If the text has the size, the size is at most LARGEST_RULE_NUMBER. The result is the size that the words spell, whatever form follows
pub record ReadsSize (key : List ℕ) (old new : Text) (x : Result (Option ℕ) TextFault) : Type 0 where
  pub most : IfOk x (λ n. IfSome n (λ k. k ≤ LARGEST_RULE_NUMBER))
  pub gives : (d : Draft) (more : Option ℕ → Form) → GivesOn (λ n. line_at d (more n) new) x (line_at d (number_behind key more) old)
  pub shorter : OnOk x (length new.words ≤ length old.words)

-- A STEP of a rule was read, which has the form `line`. Its words have the right form, each bucket or type that it names exists, and it is the step that the words spell. The builder is unchanged
pub record GivesStep {A : _} (line : Draft → RuleData → Form) (old new : MapReader A) (x : Result Step TextFault) : Type 0 where
  pub form : IfOk x IsStepForm
  pub gives : (d : Draft) (r : RuleData) → IsDraft old.builder d → GivesLine (λ s. (behind_step d r s, new.text)) x d (line d r) old.text
  pub free : IfOk x (λ s. (d : Draft) → IsDraft old.builder d → word_fault d s ≡ None)
  pub kept : new.builder ≡ old.builder
  pub shorter : OnOk x (length new.text.words ≤ length old.text.words)

-- what is true after a function has read all steps of a rule and its closing brace from the state s. r is the rule after these steps. If the function returned a place, the next line is a statement, and adding the rule r to the draft d gives the new draft. The reader reaches the place without a fault. If the function failed, its fault is as in `Fails`
abbrev pub StepsGo : Result ℕ TextFault → Draft → RuleData → Text → State → Text → Type 0
StepsGo (Ok place) d r rest s t = LeadsOn s t (between (at second (add_rule d r))) rest × Reaches place s t.words
StepsGo (Err f) d r rest s t = Fails f s t

-- one line of the rule r was read, which is a step or the closing brace. q is the rule after this line. After success, q can be added. The builder is unchanged
pub record ReadsStepLine {A : _} (r q : Rule) (old new : MapReader A) (x : Result (Option ℕ) TextFault) : Type 0 where
  pub right : OnOk x (IsRightSoFar new.builder q)
  pub reads : (d : Draft) → IsDraft old.builder d → StepGoes x d (kept_rule d q) (left_by q) new.text (line_forms d (left_by r) (ruled (kept_rule d r))) old.text
  pub kept : new.builder ≡ old.builder
  pub shorter : OnOk x (length new.text.words < length old.text.words)

-- all steps of the rule r and its closing brace were read. q is the rule after these steps. After success, q can be added. The builder is unchanged
pub record ReadsSteps {A : _} (r q : Rule) (old new : MapReader A) (x : Result ℕ TextFault) : Type 0 where
  pub right : OnOk x (IsRightSoFar new.builder q)
  pub reads : (d : Draft) → IsDraft old.builder d → StepsGo x d (kept_rule d q) new.text (between (passing (left_by r) (at (ruled (kept_rule d r)) d))) old.text
  pub kept : new.builder ≡ old.builder
  pub shorter : OnOk x (length new.text.words ≤ length old.text.words)
