-- What a flaw of a map's text is: the first fault of the text, at its place. `Rows` defines the faults of a word, and `Flow` defines the states of the reader.
use Rattle.std.specs.Prelude.{◌≡◌, ◌⊎◌, ℕ, Bool, false, List, [], ◌∷◌, ◌++◌}
use Rattle.crush_builder.specs.Built.{Draft}
use Rattle.crush_text.specs.declared.fault.TextFaultKind.{TextFaultKind}
use Rattle.crush_text.specs.declared.fault.TextFaultKind.TheVariants.{BadWord, Ended, OutOfMemory, Unexpected}
use Rattle.crush_text.specs.declared.fault.TextFault.{TextFault}
use Rattle.crush_units.specs.Words.{Word, Stop, ended, bad, Text, words}
use Rattle.crush_text.specs.Form.{Form, done, word, optional, ahead}
use Rattle.crush_text.specs.Grammar.{next}
use Rattle.crush_text.specs.Rows.{IsFault}
use Rattle.crush_text.specs.Flow.{State, between, amid, takes_statement, expected_at}
use Rattle.crush_text.specs.Document.{Spell, start}

-- f is the fault of the word w if this form is required next: w has the fault f in the role of the form's next word. If the form doesn't begin with a word, f is `Unexpected`, but reading never reaches such a form
abbrev pub FaultyForm : TextFaultKind → Draft → Form → List ℕ → Type 0
FaultyForm f d (word r more) w = IsFault f d r w
FaultyForm f d (done p) w = f ≡ Unexpected
FaultyForm f d (optional k g h) w = f ≡ Unexpected
FaultyForm f d (ahead k g h) w = f ≡ Unexpected

-- the word has the fault f in this state. Between two lines, the form of the next line is required
abbrev pub FaultyNext : TextFaultKind → State → List ℕ → Type 0
FaultyNext f (between p) w = FaultyForm f p.draft (next p) w
FaultyNext f (amid d g) w = FaultyForm f d g w

-- whether the text may end in this state: only between two statements
abbrev pub is_whole : State → Bool
is_whole (between p) = takes_statement p.mode
is_whole (amid d f) = false

-- the fault f is `Ended` at this place, since the text ends inside a statement
abbrev pub IsEnded : State → ℕ → TextFault → Type 0
IsEnded s place f = (f ≡ record { kind = Ended; place = place; expected = expected_at s }) × (is_whole s ≡ false)

-- the fault f is `BadWord` at this place: a byte that no text may contain, or a word that is too long
abbrev pub IsBadWord : State → ℕ → TextFault → Type 0
IsBadWord s place f = f ≡ record { kind = BadWord; place = place; expected = expected_at s }

-- f is the fault in the state s. If there is a next word, f is the fault of this word. If there is no next word, f is the fault at the end of the words. f also says what is expected in the state s
abbrev pub IsFaulty : State → List Word → Stop → TextFault → Type 0
IsFaulty s [] (ended place) f = IsEnded s place f
IsFaulty s [] (bad place) f = IsBadWord s place f
IsFaulty s (w ∷ ws) stop f = FaultyNext f.kind s w.text × (f.place ≡ w.place) × (f.expected ≡ expected_at s)

-- A FLAW of a text is its first fault. The words before the fault spell lines, and perhaps the beginning of one more line. The next word has the fault f. If there is no next word, f is the fault at the end of the words
pub record IsFlaw (t : Text) (f : TextFault) : Type 0 where
  pub before : List Word
  pub next : List Word
  pub all : t.words ≡ before ++ next
  pub so_far : State
  pub spelled : Spell start before next so_far
  pub fault : IsFaulty so_far next t.stop f

-- the bytes have this flaw
abbrev pub IsMapFlaw : List ℕ → TextFault → Type 0
IsMapFlaw bytes f = IsFlaw (words 0 bytes) f

-- the fault is that memory ran out
abbrev pub IsOutOfMemory : TextFault → Type 0
IsOutOfMemory f = f.kind ≡ OutOfMemory

-- the fault is that memory ran out, or it is a flaw of these bytes
abbrev pub IsFlawOrOutOfMemory : List ℕ → TextFault → Type 0
IsFlawOrOutOfMemory bytes f = IsOutOfMemory f ⊎ IsMapFlaw bytes f
