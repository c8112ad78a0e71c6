-- The notes of a run: what is written to standard error after the first line.
use Rattle.std.specs.Prelude.{◌≡◌, ℕ, ◌<◌, ◌==◌, Bool, true, false, List, [], ◌++◌, Option, None, Some, Result, Ok, Err, IfSome, codes, if◌then◌else◌, map}
use Rattle.crush_edits.specs.Setting.{SettingData}
use Rattle.crush_map.specs.MapData.{MapData, MapStands}
use Rattle.crush_history.specs.History.{EntryData}
use Rattle.crush_history.specs.Refused.{refusals, refused_text}
use Rattle.crush_reasons.specs.Created.{created_text}
use Rattle.crush_reasons.specs.Explained.{explained_job}
use Rattle.crush_reasons.specs.Fault.{fault_line, fault_text}
use Rattle.crush_reasons.specs.Made.{made_text, makings}
use Rattle.crush_reasons.specs.Place.{OriginData}
use Rattle.crush_reasons.specs.Shown.{shown_byte}
use Rattle.crush_reasons.specs.Written.{written_text}
use Rattle.crush_model.specs.Table.{Row}
use Rattle.crush_script.specs.Lines.{map_part}
use Rattle.crush_script.specs.Sections.{job_lines, lines_data}
use Rattle.crush_text.specs.declared.fault.TextFault.{TextFault}
use Rattle.crush_script.specs.declared.fault.JobFault.{JobFault}
use Rattle.crush_script.specs.declared.fault.JobFault.TheVariants as job
use Rattle.crush_options.specs.declared.parsed_options.Mode.{Mode}
use Rattle.crush_input.specs.declared.fault.RunFault.{RunFault}
use Rattle.crush_input.specs.declared.fault.RunFault.TheVariants as run
use Rattle.crush_input.specs.declared.fault.SecondMapFault.{SecondMapFault}
use Rattle.crush_input.specs.declared.fault.SecondMapFault.TheVariants as unread
use Rattle.crush_input.specs.declared.aborted.KeptText.{KeptText}
use Rattle.crush_input.specs.Lost.{LostData, conflict_notes}
use Rattle.crush_input.specs.Origins.{origin_of, whole_of}
use Rattle.crush_input.specs.Report.{made_line}

-- there is a stored map, which has this setting and represents this table
abbrev pub IsKept : Option MapData → SettingData → List Row → Type 0
IsKept None s t = ⊥
IsKept (Some m) s t = MapStands m s t

-- STORED PARTS OF A JOB'S TEXT, from which notes can be written later. `origin` gives the file from which each line comes, and `lines` has the numbers of the lines with each script's edits. `bytes` are the bytes of the job (`bytes_kept`), and `weights` are the notes on the weights in the map's text (`weight_notes`)
pub record TextData : Type 0 where
  pub origin : ℕ → OriginData
  pub lines : List (List ℕ)
  pub bytes : List ℕ
  pub weights : List ℕ

-- the program's `KeptText` as plain data
abbrev pub text_data : KeptText → TextData
text_data k = record { origin = origin_of k.origins; lines = lines_data k.lines.items; bytes = k.bytes.items; weights = k.weights.items }

-- NOTES OF REFUSED CALLS: with `--explain`, the lines of the refused calls with reasons. The reasons depend on the job's text, and on the setting and the table before the first call. In a strict run without `--explain`, the lines without reasons. In any other run, nothing
abbrev pub refused_notes : Mode → TextData → SettingData → List Row → List (List ℕ) → List EntryData → List ℕ
refused_notes mode text s t names h =
    if mode.explain then explained_job text.origin text.lines s t names h else (if mode.strict then refused_text names 1 h else [])

-- NOTES OF WEIGHTS: with `--explain`, a warning line if the map's text has carriage returns and no line feed, and then a line for each bucket that this text lists as an item with a weight that isn't the weight of the bucket in the job's table t. In t, the weight of a bucket is the sum of the weights of the devices below it. Without `--explain`, nothing
abbrev pub weight_notes : Bool → List ℕ → List Row → List ℕ
weight_notes explain bytes t = if explain then written_text t (map_part bytes) else []

-- the bytes of a job that are stored: all of them with `--explain`, otherwise none
abbrev pub bytes_kept : Bool → List ℕ → List ℕ
bytes_kept explain bytes = if explain then bytes else []

-- THE STORED PARTS of the text of a job with these bytes and with the table t; `origin` says from which file each line comes
abbrev pub text_of : Bool → (ℕ → OriginData) → List ℕ → List Row → TextData
text_of explain origin bytes t = record { origin = origin; lines = job_lines bytes; bytes = bytes_kept explain bytes; weights = weight_notes explain bytes t }

-- the notes of refused calls, followed by the stored notes of weights
abbrev pub history_notes : Mode → TextData → SettingData → List Row → List (List ℕ) → List EntryData → List ℕ
history_notes mode text s t names h = refused_notes mode text s t names h ++ text.weights

-- LINES OF CREATED BUCKETS: the history lines of the calls that created more buckets than they have `add-bucket` commands. With `--explain`, hints can follow after each of these lines. The hints depend on the setting and the table before the first call
abbrev pub created_lines : Bool → SettingData → List Row → List (List ℕ) → List EntryData → List ℕ
created_lines explain s t names h = if explain then created_text s t names h else made_text names 1 h

-- NOTES OF CREATED BUCKETS in a run that ended because of refused calls. If the run has `--no-make`, and if calls created more buckets than they have `add-bucket` commands, the notes are the line with the number of these calls, and then the lines of these calls. Otherwise there are none
abbrev pub created_notes : Mode → SettingData → List Row → List (List ℕ) → List EntryData → List ℕ
created_notes mode s t names h =
    if mode.no_make then (if makings h == 0 then [] else made_line (makings h) ++ created_lines mode.explain s t names h) else []

-- NOTES OF A FAULT OF THE JOB'S BYTES: with `--explain`, the reason for the fault, and its place in the file from which the line with the fault comes; otherwise nothing
abbrev pub place_notes : Bool → (ℕ → OriginData) → List ℕ → JobFault → List ℕ
place_notes explain origin bytes fault = if explain then fault_text (origin (fault_line bytes fault)) bytes fault else []

-- the note of a file that can't be opened or read: the file's name, in which each byte has the form that `shown_byte` gives, and the system's reason
abbrev pub unread_text : List ℕ → List ℕ → List ℕ
unread_text name reason = codes "  " ++ map shown_byte name ++ codes ": " ++ reason ++ codes "\n"

-- the notes are the note of a file that can't be read (`unread_text`), for the file `name` and with some reason
abbrev pub IsNoteOfUnreadFile : List ℕ → List ℕ → Type 0
IsNoteOfUnreadFile name notes = (reason : List ℕ) × (notes ≡ unread_text name reason)

-- NOTES OF A FILE of this name, if this fault occurred when the file was read. If the file couldn't be opened or read, and `--explain` is given, the notes are the note about the file. In all other cases there are none
abbrev pub AreNotesOfFile : Bool → List ℕ → RunFault → List ℕ → Type 0
AreNotesOfFile explain name run.Read notes = (explain ≡ false → notes ≡ []) × (explain ≡ true → IsNoteOfUnreadFile name notes)
AreNotesOfFile explain name fault notes = notes ≡ []

-- the notes of a flaw of the second map. With `--explain`, they have the flaw's place, with the name of the map's file, and the reason; otherwise there are none
abbrev pub flaw_notes : Bool → List ℕ → List ℕ → TextFault → List ℕ
flaw_notes explain name bytes fault = if explain then fault_text (whole_of name) bytes (job.Text fault) else []

-- the notes of a fault of the second map. For a flaw, there are no notes without `--explain`, and if the map's bytes are known, the notes are `flaw_notes`. If the map is too long, there are no notes. If its file can't be read, the notes are the note about the file with `--explain`, and there are no notes without `--explain`
abbrev pub AreNotesOfSecondMapFault : Bool → List ℕ → Option (List ℕ) → SecondMapFault → List ℕ → Type 0
AreNotesOfSecondMapFault explain name all (unread.Text fault) notes = (explain ≡ false → notes ≡ []) × IfSome all (λ bytes. notes ≡ flaw_notes explain name bytes fault)
AreNotesOfSecondMapFault explain name all unread.TooLong notes = notes ≡ []
AreNotesOfSecondMapFault explain name all unread.Read notes = AreNotesOfFile explain name run.Read notes

-- NOTES OF THE SECOND MAP, whose file has this name: for a fault of this map, the notes of this fault; for any other fault of the run there are none
abbrev pub AreNotesOfSecondMap : Bool → List ℕ → Option (List ℕ) → RunFault → List ℕ → Type 0
AreNotesOfSecondMap explain name all (run.SecondMap which fault) notes = AreNotesOfSecondMapFault explain name all fault notes
AreNotesOfSecondMap explain name all fault notes = notes ≡ []

-- NOTES OF A HISTORY: how the notes of a run depend on its end. If the run succeeds, or ends because of a failed write or of a name that the map doesn't have, the notes are `history_notes`: the notes of refused calls and of weights. If refused calls end the run, the notes are `history_notes`, then the notes of created buckets (`created_notes`), and then the notes of the lost changes `lost` (`conflict_notes`). If calls that created buckets end the run, the notes are the lines of these calls (`created_lines`), then `history_notes`, and then the notes of the lost changes. If lost changes end the run, the notes are the lines of the items with a lost change, and then `history_notes`. If differences that remain after a plan end the run, the notes are `history_notes`, and then `rest`, which has the lines of these differences. The definition says nothing about other faults.
abbrev pub AreNotesOfHistory : {X : Type 0} → Mode → TextData → SettingData → List Row → List (List ℕ) → List EntryData → List ℕ → LostData → Result X RunFault → List ℕ → Type 0
AreNotesOfHistory mode text s t names h rest lost (Ok x) notes = notes ≡ history_notes mode text s t names h
AreNotesOfHistory mode text s t names h rest lost (Err run.Write) notes = notes ≡ history_notes mode text s t names h
AreNotesOfHistory mode text s t names h rest lost (Err (run.Refused n)) notes = notes ≡ history_notes mode text s t names h ++ (created_notes mode s t names h ++ conflict_notes lost)
AreNotesOfHistory mode text s t names h rest lost (Err (run.Made n)) notes = notes ≡ created_lines mode.explain s t names h ++ (history_notes mode text s t names h ++ conflict_notes lost)
AreNotesOfHistory mode text s t names h rest lost (Err (run.Conflicts n)) notes = notes ≡ lost.lines ++ history_notes mode text s t names h
AreNotesOfHistory mode text s t names h rest lost (Err (run.Differs n)) notes = notes ≡ history_notes mode text s t names h ++ rest
AreNotesOfHistory mode text s t names h rest lost (Err run.NoItem) notes = notes ≡ history_notes mode text s t names h
AreNotesOfHistory mode text s t names h rest lost (Err run.NoType) notes = notes ≡ history_notes mode text s t names h
AreNotesOfHistory mode text s t names h rest lost (Err run.NoClass) notes = notes ≡ history_notes mode text s t names h
AreNotesOfHistory mode text s t names h rest lost (Err fault) notes = Unit {0}

-- NOTES WITHOUT A HISTORY: what is true of the notes of a fault, whatever the history is. For a fault of the job's bytes, there are no notes without `--explain`. Also, if the bytes are known, the notes are `place_notes`. For a failed write, or for a name that the map doesn't have, there are no notes without `--explain`. The definition says nothing about the notes if refused calls, created buckets, lost changes or remaining differences end the run. For any other fault there are no notes.
abbrev pub AreNotesOfFault : Bool → (ℕ → OriginData) → Option (List ℕ) → RunFault → List ℕ → Type 0
AreNotesOfFault explain origin all (run.Job fault) notes = (explain ≡ false → notes ≡ []) × IfSome all (λ bytes. notes ≡ place_notes explain origin bytes fault)
AreNotesOfFault explain origin all run.Write notes = explain ≡ false → notes ≡ []
AreNotesOfFault explain origin all (run.Refused n) notes = Unit {0}
AreNotesOfFault explain origin all (run.Made n) notes = Unit {0}
AreNotesOfFault explain origin all (run.Conflicts n) notes = Unit {0}
AreNotesOfFault explain origin all (run.Differs n) notes = Unit {0}
AreNotesOfFault explain origin all run.NoItem notes = explain ≡ false → notes ≡ []
AreNotesOfFault explain origin all run.NoType notes = explain ≡ false → notes ≡ []
AreNotesOfFault explain origin all run.NoClass notes = explain ≡ false → notes ≡ []
AreNotesOfFault explain origin all fault notes = notes ≡ []

-- what is true of the notes of a run with a given result, whatever the history is. If the run failed, the notes are those of its fault (`AreNotesOfFault`). A run that succeeded has no notes without `--explain`
abbrev pub AreNotesOfResult : {X : Type 0} → Bool → (ℕ → OriginData) → Option (List ℕ) → Result X RunFault → List ℕ → Type 0
AreNotesOfResult explain origin all (Ok x) notes = explain ≡ false → notes ≡ []
AreNotesOfResult explain origin all (Err fault) notes = AreNotesOfFault explain origin all fault notes

-- STRICT: a strict run has no refused entry in its history if it succeeds, or if it fails because of a failed write, of created buckets, of lost changes, of remaining differences or of a name that the map doesn't have. A run that fails because of refused calls is strict, and its fault has the number of refused entries, which is at least 1. Only a strict run fails because of remaining differences. The definition says nothing about other faults.
abbrev pub IsStrict : {X : Type 0} → Bool → List EntryData → Result X RunFault → Type 0
IsStrict strict h (Ok x) = strict ≡ true → refusals h ≡ 0
IsStrict strict h (Err run.Write) = strict ≡ true → refusals h ≡ 0
IsStrict strict h (Err (run.Refused n)) = (strict ≡ true) × (n ≡ refusals h) × (0 < n)
IsStrict strict h (Err (run.Made n)) = strict ≡ true → refusals h ≡ 0
IsStrict strict h (Err (run.Conflicts n)) = strict ≡ true → refusals h ≡ 0
IsStrict strict h (Err (run.Differs n)) = (strict ≡ true) × (refusals h ≡ 0)
IsStrict strict h (Err run.NoItem) = strict ≡ true → refusals h ≡ 0
IsStrict strict h (Err run.NoType) = strict ≡ true → refusals h ≡ 0
IsStrict strict h (Err run.NoClass) = strict ≡ true → refusals h ≡ 0
IsStrict strict h (Err fault) = Unit {0}

-- NO MAKE: suppose that a run has `--no-make`. If the run succeeds, or if it fails because of a failed write, of lost changes, of remaining differences or of a name that the map doesn't have, then no entry of its history created more buckets than its call has `add-bucket` commands. A run that fails because of such entries has `--no-make`, and its fault has the number of these entries, which is at least 1. The definition says nothing about other faults.
abbrev pub IsNoMake : {X : Type 0} → Bool → List EntryData → Result X RunFault → Type 0
IsNoMake no_make h (Ok x) = no_make ≡ true → makings h ≡ 0
IsNoMake no_make h (Err run.Write) = no_make ≡ true → makings h ≡ 0
IsNoMake no_make h (Err (run.Made n)) = (no_make ≡ true) × (n ≡ makings h) × (0 < n)
IsNoMake no_make h (Err (run.Conflicts n)) = no_make ≡ true → makings h ≡ 0
IsNoMake no_make h (Err (run.Differs n)) = no_make ≡ true → makings h ≡ 0
IsNoMake no_make h (Err run.NoItem) = no_make ≡ true → makings h ≡ 0
IsNoMake no_make h (Err run.NoType) = no_make ≡ true → makings h ≡ 0
IsNoMake no_make h (Err run.NoClass) = no_make ≡ true → makings h ≡ 0
IsNoMake no_make h (Err fault) = Unit {0}
