-- The results of reading words and lines, for the contracts of the reader's functions.
use Rattle.std.specs.Prelude.{◌≡◌, ◌⊎◌, ℕ, List, [], ◌∷◌, Bool, Option, Some, None, Result, Ok, Err, bytes_eq, codes, if◌then◌else◌}
use Rattle.crush_units.specs.declared.id.ItemId.{ItemId}
use Rattle.crush_model.specs.Lawful.{is_too_heavy}
use Rattle.crush_edits.specs.declared.rule.Step.{Step}
use Rattle.crush_edits.specs.declared.rule.Step.TheVariants.{Take}
use Rattle.crush_edits.specs.Setting.{RuleData}
use Rattle.crush_builder.specs.Built.{Draft}
use Rattle.crush_builder.specs.Rules.{kept_step}
use Rattle.crush_text.specs.declared.fault.TextFaultKind.{TextFaultKind}
use Rattle.crush_text.specs.declared.fault.TextFaultKind.TheVariants.{BadWord, Ended, SumTooLarge}
use Rattle.crush_text.specs.declared.fault.TextFault.{TextFault}
use Rattle.crush_units.specs.Words.{Word, Stop, ended, bad, Text, begins, past}
use Rattle.crush_text.specs.declared.reader.word.PlacedWord.{PlacedWord}
use Rattle.crush_text.specs.declared.reader.step.FirstOfStep.{FirstOfStep}
use Rattle.crush_text.specs.declared.reader.step.FirstOfStep.TheVariants as steps
use Rattle.crush_units.specs.declared.limits.TheConstants.{LARGEST_RULE_NUMBER}
use Rattle.crush_text.specs.Role.{Role, El, units, key, number, StepWord, takes, chooses, sets, emits}
use Rattle.crush_text.specs.declared.expected.Expected.{Expected}
use Rattle.crush_text.specs.declared.expected.Optional.{Optional}
use Rattle.crush_text.specs.declared.expected.Optional.TheVariants.{Nothing, Class}
use Rattle.crush_text.specs.Expected.{expected}
use Rattle.crush_text.specs.Form.{ruled, Progress, at, passing, Form, done, word, optional, ahead}
use Rattle.crush_text.specs.Tests.{unless, weight_tests, word_for}
use Rattle.crush_text.specs.Grammar.{with_step}
use Rattle.crush_text.specs.Flow.{State, ◌>>=◌, placed, between, arrive, outcome, Reaches}
use Rattle.crush_text.specs.Flaw.{IsOutOfMemory}

-- a word of the code, as a word of the definitions
abbrev pub word_of : PlacedWord → Word
word_of w = record { place = w.place; text = w.text.now }

-- the result of a success: the value a, and the rest t of the text
abbrev pub and_rest : {A : Type 0} → Text → A → Result (A × Text) TextFault
and_rest t a = Ok (a, t)

-- the first of these words, and the text after it. If there are no words, the result is the fault at their end. e is what is expected at this place
abbrev pub next_of : Expected → List Word → Stop → Result (Word × Text) TextFault
next_of e [] (ended place) = Err (record { kind = Ended; place = place; expected = e })
next_of e [] (bad place) = Err (record { kind = BadWord; place = place; expected = e })
next_of e (w ∷ ws) stop = and_rest (record { words = ws; stop = stop }) w

-- the next word of a text, and the text after it. If there is no next word, the result is the fault at the end of the words. e is what is expected at this place
unfoldable pub next_at : Expected → Text → Result (Word × Text) TextFault
next_at e t = next_of e t.words t.stop

-- the value that the next word has in the role r, and the text after the word. If the word has a fault, the result is this fault. If there is no next word, the result is the fault at the end of the words
unfoldable pub word_at : Draft → (r : Role) → Text → Result (El r × Text) TextFault
word_at d r t = next_at (expected r) t >>= λ x. placed x.0.place (expected r) (word_for d r x.0.text) >>= and_rest x.1

-- the progress after a line of this form, and the text after the line. If the line has a fault, the result is its first fault
unfoldable pub line_at : Draft → Form → Text → Result (Progress × Text) TextFault
line_at d (done p) t = Ok (p, t)
line_at d (word r more) t = word_at d r t >>= λ x. line_at d (more x.0) x.1
line_at d (optional k f g) t = if begins k t then line_at d f t else line_at d g t
line_at d (ahead k f g) t = if begins k (past t) then line_at d f t else line_at d g t

-- the result of reading a text to its end, if reading its first line had this result
abbrev pub then_on : Result (Progress × Text) TextFault → Result Draft TextFault
then_on r = r >>= λ x. outcome (between x.0) x.1

-- the weight that the word w spells for the item i, or the word's fault. This definition doesn't test whether sums of weights become too large
abbrev pub parsed_weight : Draft → ItemId → List ℕ → Result ℕ TextFaultKind
parsed_weight d i w = unless (weight_tests d i w) (units w)

-- the draft e, or the fault SumTooLarge if a sum of weights in e is too large
abbrev pub unless_heavy : Draft → Result Draft TextFaultKind
unless_heavy e = if is_too_heavy e.table then Err SumTooLarge else Ok e

-- the form of an optional part with the key k and a number, followed by the form `more`, which depends on the number. If the text has no such part, `more` gets `None` in place of the number
abbrev pub number_behind : List ℕ → (Option ℕ → Form) → Form
number_behind k more = optional k (word (key k) (λ _. word (number LARGEST_RULE_NUMBER) (λ n. more (Some n)))) (more None)

-- whether the word is `step`
abbrev pub is_step : List ℕ → Bool
is_step w = bytes_eq w (codes "step")

-- the code's value for the first word of a step, as a value of the definitions
abbrev pub first_of_step : FirstOfStep → StepWord
first_of_step steps.Take = takes
first_of_step (steps.Choose leaf) = chooses leaf
first_of_step (steps.Set w) = sets w.text.now
first_of_step steps.Emit = emits

-- the optional part that could follow after a step. If the step takes a bucket without a class, this is `Class`. Otherwise no part could follow
abbrev pub left_by_step : Step → Optional
left_by_step (Take name None) = Class
left_by_step s = Nothing

-- the progress after the step s of the rule r; the step has the form in which a map stores it
abbrev pub behind_step : Draft → RuleData → Step → Progress
behind_step d r s = passing (left_by_step s) (at (ruled (with_step r (kept_step d s))) d)

-- the result of a function agrees with the result `read` of the definitions. If the function returned x, then `read` is `view x`. If the function failed, then `read` has the same fault
abbrev pub Gives : {X Y : Type 0} → (X → Y) → Result X TextFault → Result Y TextFault → Type 0
Gives view (Ok x) read = read ≡ Ok (view x)
Gives view (Err f) read = read ≡ Err f

-- the result of a function agrees with the result `read` of the definitions. If the function returned x, then `read` is the result of reading on after x, which is `go x`. If the function failed, then `read` has the same fault
abbrev pub GivesOn : {X Y : Type 0} → (X → Result Y TextFault) → Result X TextFault → Result Y TextFault → Type 0
GivesOn go (Ok x) read = read ≡ go x
GivesOn go (Err f) read = read ≡ Err f

-- reading on from the state m with the text `new` is the same as reading from the state s with the text `old`: the results are the same. Every place that is reached without a fault from m is also reached without a fault from s
pub record LeadsOn (s : State) (old : Text) (m : State) (new : Text) : Type 0 where
  pub same : outcome s old ≡ outcome m new
  pub reaches : (place : ℕ) → Reaches place m new.words → Reaches place s old.words

-- f is the fault of reading the text t from the state s. Or f is OutOfMemory at the place of a word, and neither this word nor a word before it has a fault
abbrev pub Fails : TextFault → State → Text → Type 0
Fails f s t = (IsOutOfMemory f × Reaches f.place s t.words) ⊎ (outcome s t ≡ Err f)

-- f is the fault of reading a line of the form g from the text t. Or f is OutOfMemory at the place of a word, and neither this word nor a word before it has a fault
abbrev pub FailsIn : TextFault → Draft → Form → Text → Type 0
FailsIn f d g t = (IsOutOfMemory f × Reaches f.place (arrive d t.words g) t.words) ⊎ (line_at d g t ≡ Err f)

-- the result of a function agrees with reading a line of the form g. If the function returned x, then `view x` is the progress after the line, with the text after it. If the function failed, its fault is as in `FailsIn`
abbrev pub GivesLine : {X : Type 0} → (X → Progress × Text) → Result X TextFault → Draft → Form → Text → Type 0
GivesLine view (Ok x) d g t = line_at d g t ≡ Ok (view x)
GivesLine view (Err f) d g t = FailsIn f d g t
