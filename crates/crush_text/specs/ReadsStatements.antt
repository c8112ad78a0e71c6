-- What the contracts of the functions that read statements promise.
use Rattle.std.specs.Prelude.{◌≡◌, ◌⊎◌, ℕ, ◌<◌, List, Bool, Option, Some, None, Result, Ok, Err, IfOk, IfSome, OnOk, length, false, ◌||◌, bytes_eq, codes, if◌then◌else◌}
use Rattle.crush_edits.specs.Setting.{kind_number}
use Rattle.crush_builder.specs.Built.{Draft, empty_draft}
use Rattle.crush_builder.specs.Building.{BuilderData, IsDraft}
use Rattle.crush_text.specs.declared.fault.TextFault.{TextFault}
use Rattle.crush_units.specs.Words.{Text, stopped, ended}
use Rattle.crush_text.specs.declared.reader.MapReader.{MapReader}
use Rattle.crush_text.specs.declared.reader.word.PlacedWord.{PlacedWord}
use Rattle.crush_text.specs.declared.statement_kind.StatementKind.{StatementKind}
use Rattle.crush_text.specs.declared.statement_kind.StatementKind.TheVariants as statement_kinds
use Rattle.crush_text.specs.declared.expected.Expected.TheVariants as expect
use Rattle.crush_text.specs.declared.expected.Optional.TheVariants.{Nothing}
use Rattle.crush_text.specs.declared.reader.statement.Before.{Before}
use Rattle.crush_text.specs.Role.{opening}
use Rattle.crush_text.specs.Form.{Mode, first, second, at}
use Rattle.crush_text.specs.Tests.{word_for, comes_first}
use Rattle.crush_text.specs.Flow.{State, placed, between, outcome, Reaches}
use Rattle.crush_text.specs.Document.{start}
use Rattle.crush_text.specs.Flaw.{IsOutOfMemory}
use Rattle.crush_text.specs.Room.{HasRoom}
use Rattle.crush_text.specs.Reads.{LeadsOn, Fails}
use Rattle.crush_text.specs.ReadsLines.{IsIdle, Ending, ending}

-- the mode after a statement: if `late`, only buckets and rules may follow; otherwise any statement may follow
abbrev pub mode_behind : Bool → Mode
mode_behind late = if late then second else first

-- the ending of a statement. The reader stores this ending in the `Before` for the next statement
abbrev pub behind : Before → Ending
behind b = (mode_behind b.late, b.or)

-- what is true after a function has read the next statement from the state s. If the function returned `None`, the text ended here, and the builder represents the draft of the text. If it returned a `Before`, it has read a statement, and the text after the statement remains to be read. If it failed, its fault is as in `Fails`
abbrev pub NextGoes : Result (Option Before) TextFault → BuilderData → Text → State → Text → Type 0
NextGoes (Ok None) builder rest s t = (e : Draft) × IsDraft builder e × (outcome s t ≡ Ok e)
NextGoes (Ok (Some b)) builder rest s t = (e : Draft) × IsDraft builder e × LeadsOn s t (between (ending (behind b) e)) rest
NextGoes (Err f) builder rest s t = Fails f s t

-- A STATEMENT was read, or the end of the text was reached. After success, the builder is between two statements. If a statement was read, the text that is left has fewer words than before
pub record ReadsNext {A : _} (before : Before) (old new : MapReader A) (x : Result (Option Before) TextFault) : Type 0 where
  pub idle : OnOk x (IsIdle new.builder)
  pub reads : (d : Draft) → IsDraft old.builder d → NextGoes x new.builder new.text (between (ending (behind before) d)) old.text
  pub shorter : IfOk x (λ more. IfSome more (λ _. length new.text.words < length old.text.words))

-- what is true after a function has read all statements from the state s. If the function succeeded, the builder represents the draft that the text gives. If it failed, its fault is as in `Fails`
abbrev pub AllGo : Result (Unit {0}) TextFault → BuilderData → State → Text → Type 0
AllGo (Ok x) builder s t = (e : Draft) × IsDraft builder e × (outcome s t ≡ Ok e)
AllGo (Err f) builder s t = Fails f s t

-- ALL STATEMENTS were read
pub record ReadsAll {A : _} (old new : MapReader A) (x : Result (Unit {0}) TextFault) : Type 0 where
  pub idle : OnOk x (IsIdle new.builder)
  pub reads : (d : Draft) → IsDraft old.builder d → AllGo x new.builder (between (at first d)) old.text

-- if the statement is a bucket of the type k, then its first word w is the name of this type
abbrev pub IsKnown : Draft → StatementKind → List ℕ → Type 0
IsKnown d (statement_kinds.Bucket k) w = kind_number d.setting w ≡ Some k
IsKnown d o w = Unit {0}

-- the builder is between two statements, and has room for one more statement of the kind o. If the statement is a bucket, the word w is the name of its type
pub record CanOpen (o : StatementKind) (w : List ℕ) (b : BuilderData) : Type 0 where
  pub idle : IsIdle b
  pub known : (d : Draft) → IsDraft b d → IsKnown d o w
  pub room : (d : Draft) → IsDraft b d → HasRoom d o

-- the result x says which kind of statement the word w begins, or which fault w has. For each draft that the builder represents, x is the result of the definitions. After success, there is room for one more statement of this kind
pub record Opens (w : PlacedWord) (before : Before) (b : BuilderData) (x : Result StatementKind TextFault) : Type 0 where
  pub opens : (d : Draft) → IsDraft b d → x ≡ placed w.place (expect.Statement before.late before.or) (word_for d (opening before.late before.or) w.text.now)
  pub known : (d : Draft) → IsDraft b d → IfOk x (λ o. IsKnown d o w.text.now)
  pub room : IfOk x (λ o. (d : Draft) → IsDraft b d → HasRoom d o)

-- whether the word begins a statement if no type is declared yet
abbrev pub opens_alone : List ℕ → Bool
opens_alone w = comes_first w || bytes_eq w (codes "rule")

-- f is the fault of the word w as the first word of a text. Or w has no fault, and f is OutOfMemory at w's place
abbrev pub FailsFirst : TextFault → ℕ → List ℕ → Type 0
FailsFirst f place w = (IsOutOfMemory f × (f.place ≡ place) × ((o : StatementKind) × (word_for empty_draft (opening false Nothing) w ≡ Ok o))) ⊎ (placed place (expect.Statement false Nothing) (word_for empty_draft (opening false Nothing) w) ≡ Err f)

-- f is the fault of reading the text t from its beginning. Or f is OutOfMemory in one of two cases. In the first case, its place is the place of a word, and neither this word nor a word before it has a fault. In the second case, the text has no words, and the place is its end
abbrev pub FailsText : TextFault → Text → Type 0
FailsText f t = (IsOutOfMemory f × (Reaches f.place start t.words ⊎ (t ≡ stopped (ended f.place)))) ⊎ (outcome start t ≡ Err f)
