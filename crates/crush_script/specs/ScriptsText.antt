-- The printed form of scripts, as the sections of a job, and the laws that printed scripts are read back as the same scripts.
use Rattle.std.specs.Prelude.{◌≡◌, ℕ, ◌≤◌, List, [], ◌∷◌, ◌++◌, Bool, true, false, ◌==◌, All, AllPairs, bytes_eq, codes, decimal, length, map, flat_map}
use Rattle.crush_units.specs.Name.{IsName}
use Rattle.crush_units.specs.declared.limits.TheConstants.{MOST_CALLS, MOST_EDITS, MOST_ENTRIES, MOST_OPERATORS, LONGEST_JOB}
use Rattle.crush_model.specs.Table.{Row}
use Rattle.crush_edits.specs.Setting.{SettingData}
use Rattle.crush_text.specs.Document.{IsMapText}
use Rattle.crush_history.specs.declared.call.Call.{Call}
use Rattle.crush_history.specs.declared.call.Call.TheVariants.{One, Batch, Guarded}
use Rattle.crush_history.specs.Script.{ScriptData, call_count}
use Rattle.crush_edits.specs.EditText.{edit_text}
use Rattle.crush_history.specs.HistoryText.{names_of}
use Rattle.crush_script.specs.Lines.{length_to_section}
use Rattle.crush_history.specs.Said.{IsSaid}
use Rattle.crush_script.specs.Job.{IsJob, JobData}

-- the lines of a call, one for each edit. A batch also has a line `begin` or `begin at N` before its edits, and a line `commit` after them
abbrev pub call_lines : Call → List (List ℕ)
call_lines (One e) = edit_text e ∷ []
call_lines (Batch es) = codes "begin" ∷ (map edit_text es ++ codes "commit" ∷ [])
call_lines (Guarded seen es) = (codes "begin at " ++ decimal seen) ∷ (map edit_text es ++ codes "commit" ∷ [])

-- the lines of an operator's section: `%operator NAME`, and then the lines of each call
abbrev pub script_lines : ScriptData → List (List ℕ)
script_lines s = (codes "%operator " ++ s.name) ∷ flat_map call_lines s.calls

-- SCRIPTS TEXT: the printed form of scripts. It consists of their sections, one after the other, with a line feed after each line
abbrev pub scripts_text : List ScriptData → List ℕ
scripts_text scripts = flat_map (λ (line : List ℕ). line ++ codes "\n") (flat_map script_lines scripts)

-- a call that a script can express. A command can express each of its edits, a batch has at most MOST_EDITS edits, and a guarded batch names at most MOST_ENTRIES changes
abbrev pub IsSaidCall : Call → Type 0
IsSaidCall (One e) = IsSaid e
IsSaidCall (Batch es) = All IsSaid es × (length es ≤ MOST_EDITS)
IsSaidCall (Guarded seen es) = All IsSaid es × (length es ≤ MOST_EDITS) × (seen ≤ MOST_ENTRIES)

-- a script that a section can express: the name of its operator is a valid name, and a script can express each of its calls
pub record IsSaidScript (x : ScriptData) : Type 0 where
  pub name : IsName x.name
  pub calls : All IsSaidCall x.calls

-- scripts that a job can have. There are at most MOST_OPERATORS scripts, with at most MOST_CALLS calls in all scripts together. A section can express each script, and no two scripts have the same name
pub record AreScripts (scripts : List ScriptData) : Type 0 where
  pub few : length scripts ≤ MOST_OPERATORS
  pub calls : call_count scripts ≤ MOST_CALLS
  pub said : All IsSaidScript scripts
  pub names : AllPairs (λ (a b : List ℕ). bytes_eq a b ≡ false) (names_of scripts)

-- whether the bytes end with a line feed, so that a new line begins after them. If there are no bytes, the result is `starts`, which says whether a new line begins where the bytes would be
abbrev pub ends_line : Bool → List ℕ → Bool
ends_line starts [] = starts
ends_line starts (b ∷ bs) = ends_line (b == 10) bs

-- NO SECTION BEGINS in the text of a map: none of its lines begins with `%`
abbrev pub MapTextsHaveNoSection : Type 0
MapTextsHaveNoSection = (text : List ℕ) (s : SettingData) (t : List Row) (adjusted : ℕ) → IsMapText text s t adjusted → length_to_section true text ≡ length text

-- JOBS ARE READ BACK. Take the text of a map whose last line ends with a line feed, and append the printed form of scripts that a job can have. If the result has at most LONGEST_JOB bytes, it is a job with this map and these scripts.
abbrev pub JobsAreReadBack : Type 0
JobsAreReadBack = (text : List ℕ) (s : SettingData) (t : List Row) (adjusted : ℕ) (scripts : List ScriptData) → IsMapText text s t adjusted → ends_line true text ≡ true
    → AreScripts scripts → length (text ++ scripts_text scripts) ≤ LONGEST_JOB
    → IsJob (text ++ scripts_text scripts) (record { setting = s; table = t; adjusted = adjusted; scripts = scripts })

-- a job can have the scripts of each job that was read, so `JobsAreReadBack` applies to these scripts
abbrev pub ReadScriptsAreSuch : Type 0
ReadScriptsAreSuch = (bytes : List ℕ) (job : JobData) → IsJob bytes job → AreScripts job.scripts
