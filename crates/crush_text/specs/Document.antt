-- Which words spell lines of the grammar, which texts are documents, and which map a text describes. A draft (`Draft`) is an unfinished map. `Form` defines the forms of lines, and `Flow` defines the states of the reader.
use Rattle.std.specs.Prelude.{◌≡◌, ℕ, true, List, [], ◌∷◌, ◌++◌}
use Rattle.crush_model.specs.Table.{Row}
use Rattle.crush_edits.specs.Setting.{SettingData}
use Rattle.crush_edits.specs.Fits.{Fits}
use Rattle.crush_model.specs.Lawful.{Lawful}
use Rattle.crush_builder.specs.Built.{Draft, empty_draft}
use Rattle.crush_units.specs.Words.{Word, Text, ended, words}
use Rattle.crush_text.specs.Role.{value}
use Rattle.crush_text.specs.Form.{first, at, Form, done, word, optional, ahead}
use Rattle.crush_text.specs.Grammar.{next}
use Rattle.crush_text.specs.Rows.{IsRight}
use Rattle.crush_text.specs.Flow.{State, between, amid, arrive, takes_statement}

-- w is right as the next word of the form, and m is the state after w. This means that w has no fault in its role, and that m is the state in which the form after w is required, if the words `rest` follow w. d is the draft before the line. If a form doesn't begin with a word, no word is right, but reading never reaches such a form
abbrev pub SpellsForm : Draft → Form → List ℕ → List Word → State → Type 0
SpellsForm d (word r more) w rest m = IsRight d r w × (m ≡ arrive d rest (more (value d r w)))
SpellsForm d (done p) w rest m = ⊥
SpellsForm d (optional k f g) w rest m = ⊥
SpellsForm d (ahead k f g) w rest m = ⊥

-- w is right as the next word in this state, and m is the state after it, if the words `rest` follow w. Between two lines, w is the first word of the next line
abbrev pub SpellsNext : State → List ℕ → List Word → State → Type 0
SpellsNext (between p) w rest m = SpellsForm p.draft (next p) w rest m
SpellsNext (amid d f) w rest m = SpellsForm d f w rest m

-- SPELL: if the reader reads these words one after the other, and the words `others` follow them, then no word has a fault, and the reader goes from the state s to the state m
abbrev pub Spell : State → List Word → List Word → State → Type 0
Spell s [] others m = s ≡ m
Spell s (w ∷ ws) others m = (u : State) × SpellsNext s w.text (ws ++ others) u × Spell u ws others m

-- the text may end in this state, and d is the draft that the lines before the end have built
abbrev pub IsWhole : State → Draft → Type 0
IsWhole (between p) d = (p.draft ≡ d) × (takes_statement p.mode ≡ true)
IsWhole (amid e f) d = ⊥

-- the state before the first word
abbrev pub start : State
start = between (at first empty_draft)

-- A DOCUMENT is a text with three properties. First, all its words spell lines, which build the draft d from the empty draft. Second, the text may end after the last word. Third, reading stops at the end of the text, not at a byte that no text may contain or at a word that is too long
pub record IsDocument (t : Text) (d : Draft) : Type 0 where
  pub last : State
  pub spelled : Spell start t.words [] last
  pub whole : IsWhole last d
  pub end : (place : ℕ) × (t.stop ≡ ended place)

-- the draft is a map: its table is lawful, and its setting fits the table
pub record IsMap (d : Draft) : Type 0 where
  pub lawful : Lawful d.table
  pub fits : Fits d.setting d.table

-- THE MAP of a text: the bytes are a document that builds the setting s and the table t. `adjusted` is the number of buckets for which the text gives a weight that isn't the sum of the weights of the devices below the bucket
pub record IsMapText (bytes : List ℕ) (s : SettingData) (t : List Row) (adjusted : ℕ) : Type 0 where
  pub draft : Draft
  pub document : IsDocument (words 0 bytes) draft
  pub setting : draft.setting ≡ s
  pub table : draft.table ≡ t
  pub count : draft.adjusted ≡ adjusted
