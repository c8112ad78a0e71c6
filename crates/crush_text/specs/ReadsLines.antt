-- What the contracts of the functions that read lines promise.
use Rattle.std.specs.Prelude.{◌≡◌, ◌⊎◌, ℕ, ◌<◌, ◌≤◌, List, Bool, true, false, Option, Some, None, Result, Ok, Err, IfOk, OnOk, length}
use Rattle.crush_units.specs.declared.id.ItemId.{ItemId}
use Rattle.crush_model.specs.Lawful.{is_too_heavy}
use Rattle.crush_edits.specs.Setting.{kind_number}
use Rattle.crush_builder.specs.Built.{Draft, Pending, nothing, with_next_item}
use Rattle.crush_builder.specs.Building.{BuilderData, IsDraft, is_begun, is_numbered, is_filling, is_full_of_class_ids}
use Rattle.crush_text.specs.declared.fault.TextFaultKind.{TextFaultKind}
use Rattle.crush_text.specs.declared.fault.TextFault.{TextFault}
use Rattle.crush_units.specs.Words.{Text}
use Rattle.crush_text.specs.declared.statement_kind.StatementKind.{StatementKind}
use Rattle.crush_text.specs.declared.reader.MapReader.{MapReader}
use Rattle.crush_text.specs.declared.statement_kind.StatementKind.TheVariants as statement_kinds
use Rattle.crush_text.specs.declared.expected.Expected.{Expected}
use Rattle.crush_text.specs.declared.expected.Optional.{Optional}
use Rattle.crush_text.specs.declared.expected.Optional.TheVariants.{Nothing}
use Rattle.crush_text.specs.Form.{Mode, second, begun, numbered, filling, Progress, at, passing, Form}
use Rattle.crush_text.specs.Flow.{State, placed, between}
use Rattle.crush_text.specs.Flaw.{IsOutOfMemory}
use Rattle.crush_text.specs.Room.{HasRoom, IsFreeItem}
use Rattle.crush_text.specs.Reads.{line_at, unless_heavy, LeadsOn, Fails, FailsIn}

-- the builder represents a draft, and is between two statements
pub record IsIdle (b : BuilderData) : Type 0 where
  pub part : b.pending ≡ nothing
  pub some : (d : Draft) × IsDraft b d

-- the builder represents a draft, and the test is true of the builder's incomplete bucket. For example, `is_begun` tests whether the bucket has a type and a name, but no id yet
pub record IsAmid (test : Pending → Bool) (b : BuilderData) : Type 0 where
  pub part : test b.pending ≡ true
  pub some : (d : Draft) × IsDraft b d

-- the builder is ready for the lines that may come next in this mode: its incomplete bucket is at the stage that these lines require, or the builder is between two statements. While a rule is read, the builder is also between two statements, because the reader stores this rule outside of the builder
abbrev pub TakesLinesOf : Mode → BuilderData → Type 0
TakesLinesOf begun b = IsAmid is_begun b
TakesLinesOf numbered b = IsAmid is_numbered b
TakesLinesOf (filling any) b = IsAmid is_filling b
TakesLinesOf m b = IsIdle b

-- the ending of a line: which lines may come next, and which optional part the line has left out at its end
abbrev pub Ending : Type 0
Ending = Mode × Optional

-- the progress after a line with the ending m, if d is the draft after this line
abbrev pub ending : Ending → Draft → Progress
ending m d = passing m.1 (at m.0 d)

-- what is true after a function has read a line of the form g from the text t. If the function returned x, then the builder represents the draft e after the line, the line's ending is `mode x`, and `rest` is the text after the line. If the function failed, its fault is as in `FailsIn`
abbrev pub LineGoes : {X : Type 0} → (X → Ending) → Result X TextFault → BuilderData → Text → Draft → Form → Text → Type 0
LineGoes mode (Ok x) builder rest d g t = (e : Draft) × IsDraft builder e × (line_at d g t ≡ Ok (ending (mode x) e, rest))
LineGoes mode (Err f) builder rest d g t = FailsIn f d g t

-- A LINE was read. For each draft d that the builder represented before, the line has the form `form d`. After success, the builder is ready for the lines that may come next (`TakesLinesOf`), and the text that is left has fewer words than before
pub record ReadsLine {A : _} {X : Type 0} (form : Draft → Form) (mode : X → Ending) (old new : MapReader A) (x : Result X TextFault) : Type 0 where
  pub reads : (d : Draft) → IsDraft old.builder d → LineGoes mode x new.builder new.text d (form d) old.text
  pub stands : IfOk x (λ v. TakesLinesOf (mode v).0 new.builder)
  pub shorter : OnOk x (length new.text.words < length old.text.words)

-- what is true after a function has read lines from the state s. If the function returned x, then the last line's ending is `mode x`, the builder represents the draft e after the lines, and `rest` is the text after them. If the function failed, its fault is as in `Fails`
abbrev pub Goes : {X : Type 0} → (X → Ending) → Result X TextFault → BuilderData → Text → State → Text → Type 0
Goes mode (Ok x) builder rest s t = (e : Draft) × IsDraft builder e × LeadsOn s t (between (ending (mode x) e)) rest
Goes mode (Err f) builder rest s t = Fails f s t

-- LINES were read. For each draft d that the builder represented before, reading began in the state `from d`. After success, the builder is ready for the lines that may come next (`TakesLinesOf`), and the text that is left has no more words than before
pub record ReadsOn {A : _} {X : Type 0} (from : Draft → State) (mode : X → Ending) (old new : MapReader A) (x : Result X TextFault) : Type 0 where
  pub reads : (d : Draft) → IsDraft old.builder d → Goes mode x new.builder new.text (from d) old.text
  pub stands : IfOk x (λ v. TakesLinesOf (mode v).0 new.builder)
  pub shorter : OnOk x (length new.text.words ≤ length old.text.words)

-- the ending of one line of a bucket. `None` is for the line of a class id. `Some k` is for the line of the algorithm, which has left out the optional part k
abbrev pub behind_id : Option Optional → Ending
behind_id None = (numbered, Nothing)
behind_id (Some k) = (filling false, k)

-- the ending of one line of a bucket. `Some k` is for the line of an item, which has left out the optional part k. `None` is for the bucket's closing brace
abbrev pub behind_item : Option Optional → Ending
behind_item (Some k) = (filling true, k)
behind_item None = (second, Nothing)

-- the result of adding an item, if e is the draft after the item, and `read` is the result of the definitions. The item's line ends with the word at `place`, where `due` is expected. After success, the builder represents e, and `read` is e, too. After a failure, there are two cases. Either the fault is the fault of `read` at this place. Or it is OutOfMemory at this place, and no sum of weights in e is too large
abbrev pub Adds : Result (Unit {0}) TextFault → BuilderData → Draft → ℕ → Expected → Result Draft TextFaultKind → Type 0
Adds (Ok x) builder e place due read = IsDraft builder e × (read ≡ Ok e)
Adds (Err f) builder e place due read = (IsOutOfMemory f × (f.place ≡ place) × (is_too_heavy e.table ≡ false)) ⊎ (placed place due read ≡ Err f)

-- the builder is filling a bucket, and no bucket holds the item i, which is a device or a complete bucket
pub record CanTake (i : ItemId) (b : BuilderData) : Type 0 where
  pub filling : IsAmid is_filling b
  pub free : (d : Draft) → IsDraft b d → IsFreeItem d i

-- the item i was put into the bucket that is being filled. w is the weight that the text gives, or `None`. The item's line ends with the word at `place`, where `due` is expected
pub record PutsItem (i : ItemId) (w : Option ℕ) (place : ℕ) (due : Expected) (before after : BuilderData) (x : Result (Unit {0}) TextFault) : Type 0 where
  pub filling : OnOk x (IsAmid is_filling after)
  pub adds : (d : Draft) → IsDraft before d → Adds x after (with_next_item d i w) place due (unless_heavy (with_next_item d i w))

-- the builder is between two statements, and has room for one more statement of this kind
pub record HasRoomFor (o : StatementKind) (b : BuilderData) : Type 0 where
  pub idle : IsIdle b
  pub room : (d : Draft) → IsDraft b d → HasRoom d o

-- the builder is between two statements, and has room for one more bucket of the type with this name
pub record HasRoomForBucket (kind : List ℕ) (b : BuilderData) : Type 0 where
  pub idle : IsIdle b
  pub known : (d : Draft) → IsDraft b d → (k : ℕ) × (kind_number d.setting kind ≡ Some k) × HasRoom d (statement_kinds.Bucket k)

-- the incomplete bucket of the builder has its id but no algorithm yet, and has room for one more class id
pub record HasRoomForId (b : BuilderData) : Type 0 where
  pub numbered : IsAmid is_numbered b
  pub room : (d : Draft) → IsDraft b d → is_full_of_class_ids d ≡ false
