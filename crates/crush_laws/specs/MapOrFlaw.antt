-- The laws that bytes either are the text of one map or have one flaw. A flaw is the first fault of a text, with its place.
use Rattle.std.specs.Prelude.{◌≡◌, ◌⊎◌, ◌↔◌, ℕ, List, ◌∷◌, ◌++◌, Err, codes}
use Rattle.crush_model.specs.Table.{Row}
use Rattle.crush_edits.specs.Setting.{SettingData}
use Rattle.crush_edits.specs.Fits.{Fits}
use Rattle.crush_model.specs.Lawful.{Lawful}
use Rattle.crush_builder.specs.Built.{Draft}
use Rattle.crush_text.specs.declared.fault.TextFaultKind.{TextFaultKind}
use Rattle.crush_text.specs.declared.fault.TextFault.{TextFault}
use Rattle.crush_units.specs.Words.{Word, words, begins_with_key}
use Rattle.crush_text.specs.Document.{IsMapText}
use Rattle.crush_laws.specs.Admitted.{IsLawfulText}
use Rattle.crush_laws.specs.Final.{EndsLawfully}
use Rattle.crush_laws.specs.Meaning.{SpellsMap}
use Rattle.crush_text.specs.Role.{Role}
use Rattle.crush_text.specs.Rows.{IsFault}
use Rattle.crush_text.specs.Tests.{word_for}
use Rattle.crush_text.specs.Flow.{expected_at}
use Rattle.crush_text.specs.Flaw.{IsMapFlaw}
use Rattle.crush_text.specs.Follows.{MayFollow, GoesOn}

-- bytes are the text of the map with the setting s, the table t and n adjusted weights if and only if their words spell a lawful document with the same s, t and n
abbrev pub TextsAreLawfulDocuments : Type 0
TextsAreLawfulDocuments = (bytes : List ℕ) (s : SettingData) (t : List Row) (n : ℕ) → IsMapText bytes s t n ↔ SpellsMap bytes s t n

-- bytes that have a flaw aren't the text of a map
abbrev pub AFlawExcludesTheMap : Type 0
AFlawExcludesTheMap = (bytes : List ℕ) (f : TextFault) (s : SettingData) (t : List Row) (n : ℕ) → IsMapFlaw bytes f → IsMapText bytes s t n → ⊥

-- bytes have at most one flaw
abbrev pub AtMostOneFlaw : Type 0
AtMostOneFlaw = (bytes : List ℕ) (f g : TextFault) → IsMapFlaw bytes f → IsMapFlaw bytes g → f ≡ g

-- the flaw doesn't depend on what follows the word w that has the fault, except for whether the next word is `weight`. Suppose that other bytes have the same words up to and including w, and that `weight` follows w in both texts or in neither of them. Then the other bytes have the same flaw.
abbrev pub SameWordsSameFlaw : Type 0
SameWordsSameFlaw = (bytes others : List ℕ) (f : TextFault) (x : IsMapFlaw bytes f) (w : Word) (next more : List Word) → x.next ≡ w ∷ next → (words 0 others).words ≡ x.before ++ w ∷ more → begins_with_key (codes "weight") next ≡ begins_with_key (codes "weight") more → IsMapFlaw others f

-- the words before a flaw lead to a state (`so_far`), and the field `expected` of the flaw says what is expected in this state
abbrev pub FlawsSayWhatIsExpected : Type 0
FlawsSayWhatIsExpected = (bytes : List ℕ) (f : TextFault) (x : IsMapFlaw bytes f) → f.expected ≡ expected_at x.so_far

-- with each word that may follow in the state before the flaw, the text can go on: if suitable words follow this word, then neither this word nor a word before it has a fault
abbrev pub ExpectedWordsGoOn : Type 0
ExpectedWordsGoOn = (bytes : List ℕ) (f : TextFault) (x : IsMapFlaw bytes f) (w : Word) → MayFollow x.so_far w.text → GoesOn x.before w

-- with any other word, the text can't go on: whatever words follow this word, this word or a word before it has a fault
abbrev pub NoOtherWordGoesOn : Type 0
NoOtherWordGoesOn = (bytes : List ℕ) (f : TextFault) (x : IsMapFlaw bytes f) (w : Word) → GoesOn x.before w → MayFollow x.so_far w.text

-- bytes are the text of at most one map
abbrev pub AtMostOneMap : Type 0
AtMostOneMap = (bytes : List ℕ) (s r : SettingData) (t u : List Row) (n m : ℕ) → IsMapText bytes s t n → IsMapText bytes r u m → (s ≡ r) × (t ≡ u) × (n ≡ m)

-- each map that has a text is lawful: its table is lawful, and its setting fits the table
abbrev pub EachMapIsLawful : Type 0
EachMapIsLawful = (bytes : List ℕ) (s : SettingData) (t : List Row) (n : ℕ) → IsMapText bytes s t n → Lawful t × Fits s t

-- bytes are the text of a map if and only if their words build that map line by line, and what has been built is lawful after each line. So a lawful text has no fault, and a text without a fault is lawful.
abbrev pub MapsAreTheLawfulTexts : Type 0
MapsAreTheLawfulTexts = (bytes : List ℕ) (s : SettingData) (t : List Row) (n : ℕ) → IsMapText bytes s t n ↔ IsLawfulText bytes s t n

-- bytes are the text of a map if and only if each of their words has the form that the grammar requires, the words lead to that map, and the map is lawful at the end of the text. So no line of a text is rejected if the map is lawful at the end of the text.
abbrev pub MapsAreTheLawfulEnds : Type 0
MapsAreTheLawfulEnds = (bytes : List ℕ) (s : SettingData) (t : List Row) (n : ℕ) → IsMapText bytes s t n ↔ EndsLawfully bytes s t n

-- the reader finds the fault f in a word w of the role r if and only if, in the table of faults, the row of f applies to w and no row of a fault with a smaller number applies (`IsFault`)
abbrev pub WordsAreJudgedByTheTable : Type 0
WordsAreJudgedByTheTable = (d : Draft) (r : Role) (w : List ℕ) (f : TextFaultKind) → (word_for d r w ≡ Err f) ↔ IsFault f d r w

-- the bytes are the text of some map
pub record HasMap (bytes : List ℕ) : Type 0 where
  pub setting : SettingData
  pub table : List Row
  pub adjusted : ℕ
  pub text : IsMapText bytes setting table adjusted

-- the bytes have some flaw
pub record HasFlaw (bytes : List ℕ) : Type 0 where
  pub fault : TextFault
  pub flaw : IsMapFlaw bytes fault

-- every sequence of bytes is the text of a map or has a flaw
abbrev pub AMapOrAFlaw : Type 0
AMapOrAFlaw = (bytes : List ℕ) → HasMap bytes ⊎ HasFlaw bytes
