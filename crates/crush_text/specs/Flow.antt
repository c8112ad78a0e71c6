-- The reader as a state machine: how each word changes the state, and the result of all words.
use Rattle.std.specs.Prelude.{◌≡◌, ◌⊎◌, ℕ, Bool, true, false, List, [], ◌∷◌, drop, Result, Ok, Err, if◌then◌else◌}
use Rattle.crush_builder.specs.Built.{Draft}
use Rattle.crush_units.specs.Words.{Word, Stop, ended, bad, Text, begins_with_key}
use Rattle.crush_text.specs.declared.fault.TextFaultKind.{TextFaultKind}
use Rattle.crush_text.specs.declared.fault.TextFaultKind.TheVariants.{BadWord, Ended, Unexpected}
use Rattle.crush_text.specs.declared.fault.TextFault.{TextFault}
use Rattle.crush_text.specs.Form.{Mode, first, second, Progress, Form, done, word, optional, ahead}
use Rattle.crush_text.specs.Grammar.{next}
use Rattle.crush_text.specs.Tests.{word_for}
use Rattle.crush_text.specs.declared.expected.Expected.{Expected}
use Rattle.crush_text.specs.declared.expected.Expected.TheVariants.{Memory}
use Rattle.crush_text.specs.Expected.{expected}

infixl 10 ◌>>=◌
-- one computation after the other: f gets the value of the first computation. If the first computation fails, its error is the result
abbrev pub ◌>>=◌ : {A B E : Type 0} → Result A E → (A → Result B E) → Result B E
(Ok x) >>= f = f x
(Err e) >>= f = Err e

-- the state of the reader. `between`: between two lines, with the progress so far. `amid`: inside a line, with the draft before the line and the form that the rest of the line must have
pub data State : Type 0 where
  between : Progress → State
  amid : Draft → Form → State

-- the state in which this form is required next, if the words `rest` follow. These words decide whether an optional part of the form is there
abbrev pub arrive : Draft → List Word → Form → State
arrive d rest (done p) = between p
arrive d rest (word r more) = amid d (word r more)
arrive d rest (optional k f g) = if begins_with_key k rest then arrive d rest f else arrive d rest g
arrive d rest (ahead k f g) = if begins_with_key k (drop 1 rest) then arrive d rest f else arrive d rest g

-- the state after the word w, if this form is required and the words `rest` follow w. If w has a fault, the result is this fault. If the form doesn't begin with a word, the result is the fault `Unexpected`, but reading never reaches such a form
abbrev pub take : Draft → Form → List ℕ → List Word → Result State TextFaultKind
take d (word r more) w rest = word_for d r w >>= λ v. Ok (arrive d rest (more v))
take d f w rest = Err Unexpected

-- the state after one more word, if the words `rest` follow it. If the word has a fault, the result is this fault. If an optional part could come directly after the word, then the words `rest` decide whether the line has this part: the next word decides, or, for the form `ahead`, the word after the next one
unfoldable pub step : State → List ℕ → List Word → Result State TextFaultKind
step (between p) w rest = take p.draft (next p) w rest
step (amid d f) w rest = take d f w rest

-- what is expected as the next word of this form. Reading only reaches forms that begin with a word, so the results for other forms are never used
abbrev pub expected_form : Form → Expected
expected_form (word r more) = expected r
expected_form (done p) = Memory
expected_form (optional k f g) = Memory
expected_form (ahead k f g) = Memory

-- what is expected in this state
abbrev pub expected_at : State → Expected
expected_at (between p) = expected_form (next p)
expected_at (amid d f) = expected_form f

-- the same result, but a fault also has its place and what is expected there
abbrev pub placed : {A : Type 0} → ℕ → Expected → Result A TextFaultKind → Result A TextFault
placed place e (Ok x) = Ok x
placed place e (Err kind) = Err (record { kind = kind; place = place; expected = e })

-- whether a statement may begin in this mode. The text may also end in such a mode, and in no other mode
abbrev pub takes_statement : Mode → Bool
takes_statement first = true
takes_statement second = true
takes_statement m = false

-- the result if the text ends inside a statement: the fault `Ended`. `place` is the end of the text, and e is what is expected there
abbrev pub unfinished : ℕ → Expected → Result Draft TextFault
unfinished place e = Err (record { kind = Ended; place = place; expected = e })

-- the result if the text ends in this state: the draft that was built, or the fault that the text ends inside a statement
abbrev pub end_at : ℕ → State → Result Draft TextFault
end_at place (between p) = if takes_statement p.mode then Ok p.draft else unfinished place (expected_form (next p))
end_at place (amid d f) = unfinished place (expected_form f)

-- the result if there are no more words. At the end of the text, it is the result of `end_at`. At a byte that no text may contain, or at a word that is too long, it is the fault BadWord
abbrev pub stop_at : State → Stop → Result Draft TextFault
stop_at s (ended place) = end_at place s
stop_at s (bad place) = Err (record { kind = BadWord; place = place; expected = expected_at s })

-- the result of reading these words from the state s: the draft that they build, or the first fault
unfoldable pub run : State → List Word → Stop → Result Draft TextFault
run s [] stop = stop_at s stop
run s (w ∷ ws) stop = placed w.place (expected_at s) (step s w.text ws) >>= λ m. run m ws stop

-- the result of reading the rest of a text from the state s
unfoldable pub outcome : State → Text → Result Draft TextFault
outcome s t = run s t.words t.stop

-- the reader reaches the place without a fault: one of the words is at this place, and neither this word nor any word before it has a fault
abbrev pub Reaches : ℕ → State → List Word → Type 0
Reaches place s [] = ⊥
Reaches place s (w ∷ ws) = (m : State) × (step s w.text ws ≡ Ok m) × ((place ≡ w.place) ⊎ Reaches place m ws)
