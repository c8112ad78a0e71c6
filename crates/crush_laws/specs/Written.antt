-- The laws that the output of a run is read back as the map after the run.
use Rattle.std.specs.Prelude.{ℕ, ◌≤◌, ◌++◌, List, All, length}
use Rattle.crush_units.specs.Name.{IsName}
use Rattle.crush_model.specs.Table.{Row}
use Rattle.crush_model.specs.Lawful.{Lawful}
use Rattle.crush_edits.specs.Setting.{SettingData}
use Rattle.crush_edits.specs.Fits.{Fits}
use Rattle.crush_edits.specs.LawEdit.{Keeps}
use Rattle.crush_edits.specs.Pushed.{IsLocation}
use Rattle.crush_edits.specs.declared.edit.Edit.{Edit}
use Rattle.crush_edits.specs.declared.edit.Edit.TheVariants.{Place, Move, Swap, Reweight, ReweightSubtree, Remove, AddBucket, Rename, SetClass, RemoveClass}
use Rattle.crush_print.specs.MapText.{map_text}
use Rattle.crush_print.specs.declared.weight_form.WeightForm.{WeightForm}
use Rattle.crush_laws.specs.ReadingBack.{IsReadAs, AreCommentLines}
use Rattle.crush_history.specs.declared.call.Call.{Call}
use Rattle.crush_history.specs.declared.call.Call.TheVariants.{One, Batch, Guarded}
use Rattle.crush_history.specs.History.{EntryData, table_after, turns}
use Rattle.crush_history.specs.LawRun.{IsCall}
use Rattle.crush_history.specs.HistoryText.{entries_text, names_of}
use Rattle.crush_units.specs.declared.limits.TheConstants.{LONGEST_JOB}
use Rattle.crush_history.specs.Script.{ScriptData}
use Rattle.crush_script.specs.Job.{JobData, IsJob}
use Rattle.crush_script.specs.ScriptsText.{AreScripts, scripts_text}

-- the names of an edit have the form of names, and the location of an edit, if it has one, has the form of a location. The types of the code ensure this for each edit
abbrev pub IsNamed : Edit → Type 0
IsNamed (Place how d n w l) = IsName n × IsLocation l
IsNamed (Move n l) = IsName n × IsLocation l
IsNamed (Swap a b) = IsName a × IsName b
IsNamed (Reweight n w) = IsName n
IsNamed (ReweightSubtree n w) = IsName n
IsNamed (Remove n) = IsName n
IsNamed (AddBucket n kind) = IsName n × IsName kind
IsNamed (Rename from to) = IsName from × IsName to
IsNamed (SetClass n c) = IsName n × IsName c
IsNamed (RemoveClass n) = IsName n

-- the definition `IsNamed` holds for each edit of a call
abbrev pub IsNamedCall : Call → Type 0
IsNamedCall (One e) = IsNamed e
IsNamedCall (Batch es) = All IsNamed es
IsNamedCall (Guarded seen es) = All IsNamed es

-- the definition `IsNamedCall` holds for each call of a history
abbrev pub IsNamedHistory : List EntryData → Type 0
IsNamedHistory h = All (λ (e : EntryData). IsNamedCall e.call) h

-- HISTORY LINES ARE COMMENTS: the lines of a history are whole lines that begin with `#`, if the names of the operators and the history have the form that the types of the code ensure
abbrev pub HistoryLinesAreComments : Type 0
HistoryLinesAreComments = (names : List (List ℕ)) (number : ℕ) (h : List EntryData) → All IsName names → IsNamedHistory h → AreCommentLines (entries_text names number h)

-- WHAT IS WRITTEN IS READ BACK: the printed text of a lawful map, followed by the lines of any history, is read back as that map, if the names of the operators and the history have the form that the types of the code ensure
abbrev pub WhatIsWrittenIsReadBack : Type 0
WhatIsWrittenIsReadBack = (form : WeightForm) (s : SettingData) (t : List Row) (names : List (List ℕ)) (number : ℕ) (h : List EntryData) → Lawful t → Fits s t
    → All IsName names → IsNamedHistory h → IsReadAs (map_text form s t ++ entries_text names number h) s t

-- the printed text of the map after a history, with weights in this form, followed by a line for each entry
abbrev pub text_after : WeightForm → SettingData → List Row → List (List ℕ) → List EntryData → List ℕ
text_after form s t names h = map_text form s (table_after s t h) ++ entries_text names 1 h

-- THE TEXT OF ANY HISTORY: take a history that begins with a lawful map. The printed text of the map after the history, followed by the lines of the history, is read back as the map after the history, if the names of the operators are names and the calls meet `IsNamedHistory` and `IsCall`
abbrev pub HistoryTextsAreReadBack : Type 0
HistoryTextsAreReadBack = (form : WeightForm) (s : SettingData) (t : List Row) (names : List (List ℕ)) (h : List EntryData) → Lawful t → Fits s t
    → All IsName names → IsNamedHistory h → All (λ (e : EntryData). IsCall e.call) h → IsReadAs (text_after form s t names h) s (table_after s t h)

-- THE MAP AFTER A JOB: after the scripts of any job have run one after the other, the table is lawful, and the setting fits it
abbrev pub JobsStayLawful : Type 0
JobsStayLawful = (bytes : List ℕ) (job : JobData) → IsJob bytes job → Keeps job.setting (table_after job.setting job.table (turns job.setting job.table job.scripts))

-- THE OUTPUT OF A JOB, with the lines of its history, is read back as the map after the job. The scripts of the job have run one after the other
abbrev pub JobTextsAreReadBack : Type 0
JobTextsAreReadBack = (form : WeightForm) (bytes : List ℕ) (job : JobData) → IsJob bytes job
    → let h = turns job.setting job.table job.scripts in IsReadAs (text_after form job.setting job.table (names_of job.scripts) h) job.setting (table_after job.setting job.table h)

-- the output of a job, without the lines of its history, is read back as the map after the job
abbrev pub JobMapsAreReadBack : Type 0
JobMapsAreReadBack = (form : WeightForm) (bytes : List ℕ) (job : JobData) → IsJob bytes job
    → let u = table_after job.setting job.table (turns job.setting job.table job.scripts) in IsReadAs (map_text form job.setting u) job.setting u

-- RUNS ON: the bytes are read as the map with the setting s and the table t, as `IsReadAs` says. If the sections of any valid scripts are appended, and the result isn't longer than a job may be, then the result is a job. It is the job of the map that is read, with these scripts.
pub record RunsOn (bytes : List ℕ) (s : SettingData) (t : List Row) : Type 0 where
  pub read : IsReadAs bytes s t
  pub job : (scripts : List ScriptData) → AreScripts scripts → length (bytes ++ scripts_text scripts) ≤ LONGEST_JOB
      → IsJob (bytes ++ scripts_text scripts) (record { setting = read.setting; table = read.map.table; adjusted = 0; scripts = scripts })

-- PRINT, APPEND A SECTION, RUN: the printed text of a lawful map, followed by any comment lines, has the property `RunsOn`
abbrev pub PrintedMapsRunOn : Type 0
PrintedMapsRunOn = (form : WeightForm) (s : SettingData) (t : List Row) (comments : List ℕ) → Lawful t → Fits s t → AreCommentLines comments → RunsOn (map_text form s t ++ comments) s t

-- the output of a job, with the lines of its history, has the property `RunsOn`
abbrev pub JobTextsRunOn : Type 0
JobTextsRunOn = (form : WeightForm) (bytes : List ℕ) (job : JobData) → IsJob bytes job
    → let h = turns job.setting job.table job.scripts in RunsOn (text_after form job.setting job.table (names_of job.scripts) h) job.setting (table_after job.setting job.table h)
