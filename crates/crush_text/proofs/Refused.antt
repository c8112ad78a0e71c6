-- If a function fails, its contract promises nothing except for the fault.
use Rattle.std.proofs.Common.{◌≡◌, ℕ, Bool, List, Result, Ok, Err, Option, inl}
use Rattle.std.specs.Prelude.{OnOk, IsErrAnd, MatchResult}
use Rattle.crush_builder.specs.Built.{Draft}
use Rattle.crush_builder.specs.Building.{IsDraft}
use Rattle.crush_builder.specs.Rules.{kept_rule}
use Rattle.crush_edits.specs.declared.rule.Rule.{Rule}
use Rattle.crush_edits.specs.Setting.{RuleData}
use Rattle.crush_units.specs.Words.{Text}
use Rattle.crush_text.specs.declared.fault.TextFault.{TextFault}
use Rattle.crush_text.specs.declared.fault.TextFaultKind.TheVariants.{OutOfMemory}
use Rattle.crush_text.specs.declared.reader.MapReader.{MapReader}
use Rattle.crush_text.specs.Role.{Role, El}
use Rattle.crush_text.specs.declared.expected.Expected.TheVariants.{Memory}
use Rattle.crush_text.specs.declared.reader.statement.Before.{Before}
use Rattle.crush_text.specs.Form.{first, ruled, at, passing, Form}
use Rattle.crush_text.specs.Grammar.{rule_line, line_forms}
use Rattle.crush_text.specs.Flow.{State, between, arrive, Reaches}
use Rattle.crush_text.specs.Reads.{word_at, line_at, number_behind, Fails, FailsIn}
use Rattle.crush_text.specs.ReadsWords.{ReadsWord, ReadsValue, FindsWord, FindsValue}
use Rattle.crush_text.specs.ReadsLines.{Ending, ending, ReadsLine, ReadsOn}
use Rattle.crush_text.specs.ReadsRules.{left_by, ReadsHead, ReadsSize, GivesStep, ReadsStepLine, ReadsSteps}
use Rattle.crush_text.specs.ReadsStatements.{behind, ReadsNext, ReadsAll}
use Rattle.crush_text.proofs.Reached.{out_of_memory_here}

-- the contract of a function that reads a name, if it fails
pub no_name : (r : Role) (drafts : Draft → Type 0) (old new : Text) (f : TextFault) → ((d : Draft) → drafts d → word_at d r old ≡ Err f) → ReadsWord r drafts old new (Err f)
no_name r drafts old new f h = record { gives = h; next = tt; plain = tt; named = tt; free = tt; shorter = tt }

-- the contract of a function that reads a value, if it fails
pub no_value : {X : Type 0} (r : Role) {view : X → El r} (drafts : Draft → Type 0) (old new : Text) (f : TextFault) → ((d : Draft) → drafts d → word_at d r old ≡ Err f) → ReadsValue r view drafts old new (Err f)
no_value r drafts old new f h = record { gives = h; range = tt; free = tt; shorter = tt }

-- the contract of a method that reads a name, if it fails and leaves the builder unchanged
pub finds_no_name : {A : _} (r : Role) (old new : MapReader A) (f : TextFault) → new.builder ≡ old.builder → ((d : Draft) → IsDraft old.builder d → word_at d r old.text ≡ Err f) → FindsWord r old new (Err f)
finds_no_name r old new f kept h = record { reads = no_name r _ _ _ f h; kept = kept }

pub finds_no_value : {A : _} {X : Type 0} (r : Role) {view : X → El r} (old new : MapReader A) (f : TextFault) → new.builder ≡ old.builder → ((d : Draft) → IsDraft old.builder d → word_at d r old.text ≡ Err f) → FindsValue r view old new (Err f)
finds_no_value r old new f kept h = record { reads = no_value r _ _ _ f h; kept = kept }

-- the contract of a function that reads a line, if it fails
pub no_line : {A : _} {X : Type 0} (form : Draft → Form) (mode : X → Ending) (old new : MapReader A) (f : TextFault) → ((d : Draft) → IsDraft old.builder d → FailsIn f d (form d) old.text) → ReadsLine form mode old new (Err f)
no_line form mode old new f h = record { reads = h; stands = tt; shorter = tt }

-- the builder adds what the line says; or memory runs out, which is reported at a place that is reached in the line
pub line_or_memory : {A : _} {E P : Type 0} {form : Draft → Form} {mode : Unit {0} → Ending} {old new : MapReader A} (made : Result (Unit {0}) E) (told : E → TextFault → Type 0) (x : Result (Unit {0}) TextFault) (place : ℕ)
    → MatchResult made (λ u. x ≡ Ok u) (λ e. IsErrAnd x (told e)) → ((e : E) (f : TextFault) → told e f → f ≡ record { kind = OutOfMemory; place = place; expected = Memory }) → ((d : Draft) → IsDraft old.builder d → Reaches place (arrive d old.text.words (form d)) old.text.words)
    → OnOk made P → (P → ReadsLine form mode old new (Ok tt)) → ReadsLine form mode old new x
line_or_memory (Ok u) told x place is want here ok reads = rw is (reads ok)
line_or_memory (Err e) told (Ok u) place is want here ok reads = absurd is
line_or_memory {form = form} {mode = mode} {old = old} {new = new} (Err e) told (Err f) place is want here ok reads = no_line form mode old new f (λ d h. inl (out_of_memory_here f place (arrive d old.text.words (form d)) old.text.words (want e f is) (here d h)))

-- the contract of a function that reads lines, if it fails
pub no_lines : {A : _} {X : Type 0} (from : Draft → State) (mode : X → Ending) (old new : MapReader A) (f : TextFault) → ((d : Draft) → IsDraft old.builder d → Fails f (from d) old.text) → ReadsOn from mode old new (Err f)
no_lines from mode old new f h = record { reads = h; stands = tt; shorter = tt }

-- the builder adds what the lines say; or memory runs out, which is reported at a place that is reached in the lines
pub lines_or_memory : {A : _} {E P : Type 0} {from : Draft → State} {mode : Unit {0} → Ending} {old new : MapReader A} (made : Result (Unit {0}) E) (told : E → TextFault → Type 0) (x : Result (Unit {0}) TextFault) (place : ℕ)
    → MatchResult made (λ u. x ≡ Ok u) (λ e. IsErrAnd x (told e)) → ((e : E) (f : TextFault) → told e f → f ≡ record { kind = OutOfMemory; place = place; expected = Memory }) → ((d : Draft) → IsDraft old.builder d → Reaches place (from d) old.text.words)
    → OnOk made P → (P → ReadsOn from mode old new (Ok tt)) → ReadsOn from mode old new x
lines_or_memory (Ok u) told x place is want here ok reads = rw is (reads ok)
lines_or_memory (Err e) told (Ok u) place is want here ok reads = absurd is
lines_or_memory {from = from} {mode = mode} {old = old} {new = new} (Err e) told (Err f) place is want here ok reads = no_lines from mode old new f (λ d h. inl (out_of_memory_here f place (from d) old.text.words (want e f is) (here d h)))

-- the contracts of the functions that read a rule's head or a size, if they fail
pub no_head : {A : _} (old new : MapReader A) (f : TextFault) → new.builder ≡ old.builder → ((d : Draft) → IsDraft old.builder d → FailsIn f d (rule_line d) old.text) → ReadsHead old new (Err f)
no_head old new f kept h = record { right = tt; gives = h; kept = kept; shorter = tt }

pub no_size : (key : List ℕ) (old new : Text) (f : TextFault) → ((d : Draft) (more : Option ℕ → Form) → line_at d (number_behind key more) old ≡ Err f) → ReadsSize key old new (Err f)
no_size key old new f h = record { most = tt; gives = h; shorter = tt }

-- the contracts of the functions that read a step or a line of a rule, if they fail
pub no_step : {A : _} (form : Draft → RuleData → Form) (old new : MapReader A) (f : TextFault) → new.builder ≡ old.builder → ((d : Draft) (r : RuleData) → IsDraft old.builder d → FailsIn f d (form d r) old.text) → GivesStep form old new (Err f)
no_step form old new f kept h = record { form = tt; gives = h; free = tt; kept = kept; shorter = tt }

pub no_step_line : {A : _} (r q : Rule) (old new : MapReader A) (f : TextFault) → new.builder ≡ old.builder → ((d : Draft) → IsDraft old.builder d → FailsIn f d (line_forms d (left_by r) (ruled (kept_rule d r))) old.text) → ReadsStepLine r q old new (Err f)
no_step_line r q old new f kept h = record { right = tt; reads = h; kept = kept; shorter = tt }

pub no_steps : {A : _} (r q : Rule) (old new : MapReader A) (f : TextFault) → new.builder ≡ old.builder → ((d : Draft) → IsDraft old.builder d → Fails f (between (passing (left_by r) (at (ruled (kept_rule d r)) d))) old.text) → ReadsSteps r q old new (Err f)
no_steps r q old new f kept h = record { right = tt; reads = h; kept = kept; shorter = tt }

-- the contract of a function that reads a statement, if it fails
pub no_next : {A : _} (before : Before) (old new : MapReader A) (f : TextFault) → ((d : Draft) → IsDraft old.builder d → Fails f (between (ending (behind before) d)) old.text) → ReadsNext before old new (Err f)
no_next before old new f h = record { idle = tt; reads = h; shorter = tt }

pub no_end : {A : _} (old new : MapReader A) (f : TextFault) → ((d : Draft) → IsDraft old.builder d → Fails f (between (at first d)) old.text) → ReadsAll old new (Err f)
no_end old new f h = record { idle = tt; reads = h }
