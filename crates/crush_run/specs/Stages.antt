-- The stages of a run of a job: the result of each stage, and the faults with which it may fail.
use Rattle.std.specs.Prelude.{◌≡◌, ◌≢◌, ℕ, List, [], ◌++◌, Bool, false, true, ◌&&◌, ◌||◌, Option, Result, Ok, Err, IfOk, IfErr}
use Rattle.std.specs.Io.KnownBytes.{Keeps}
use Rattle.crush_model.specs.Stands.{Stands}
use Rattle.crush_model.specs.Table.{Row}
use Rattle.crush_edits.specs.Setting.{SettingData}
use Rattle.crush_map.specs.MapData.{MapData, MapStands}
use Rattle.crush_history.specs.History.{EntryData, table_after}
use Rattle.crush_history.specs.Script.{ScriptData}
use Rattle.crush_since.specs.Stays.{text_of_lines}
use Rattle.crush_plan.specs.Plan.{PlanData}
use Rattle.crush_script.specs.Job.{JobData}
use Rattle.crush_options.specs.declared.parsed_options.Mode.{Mode}
use Rattle.crush_input.specs.declared.fault.RunFault.{RunFault}
use Rattle.crush_input.specs.declared.fault.RunFault.TheVariants as run
use Rattle.crush_input.specs.declared.output.Output.{Output}
use Rattle.crush_input.specs.declared.output.Output.TheVariants as output
use Rattle.crush_input.specs.declared.summary.Summary.{Summary}
use Rattle.crush_reasons.specs.Place.{OriginData}
use Rattle.crush_input.specs.Lost.{IsLossless, LostData, conflict_notes}
use Rattle.crush_input.specs.Notes.{AreNotesOfHistory, IsKept, IsNoMake, AreNotesOfResult, IsStrict, TextData, created_lines, created_notes, history_notes}
use Rattle.crush_run.specs.declared.outcome.EndNotes.{EndNotes}
use Rattle.crush_run.specs.Found.{IsFound}
use Rattle.crush_run.specs.Output.{IsWritten, written_text}
use Rattle.crush_run.specs.Planned.{IsWhole}
use Rattle.crush_run.specs.Run.{IsRunOf, differs_of, summed}

-- the faults with which running the scripts at the same time may fail
abbrev pub IsAtOnceFault : RunFault → Type 0
IsAtOnceFault run.Memory = Unit {0}
IsAtOnceFault run.Thread = Unit {0}
IsAtOnceFault fault = ⊥

-- the faults with which running the scripts may fail. If they run in turn, no thread is needed
abbrev pub IsScriptsFault : Bool → RunFault → Type 0
IsScriptsFault in_turn run.Memory = Unit {0}
IsScriptsFault in_turn run.Thread = in_turn ≡ false
IsScriptsFault in_turn fault = ⊥

-- the faults with which a run may fail after its job was parsed
abbrev pub IsOutcomeFault : Mode → RunFault → Type 0
IsOutcomeFault mode run.Write = Unit {0}
IsOutcomeFault mode run.Memory = Unit {0}
IsOutcomeFault mode run.Thread = mode.in_turn ≡ false
IsOutcomeFault mode (run.Refused n) = mode.strict ≡ true
IsOutcomeFault mode (run.Made n) = mode.no_make ≡ true
IsOutcomeFault mode (run.Conflicts n) = mode.conflicts ≡ true
IsOutcomeFault mode (run.Differs n) = mode.strict ≡ true
IsOutcomeFault mode run.NoItem = Unit {0}
IsOutcomeFault mode run.NoType = Unit {0}
IsOutcomeFault mode run.NoClass = Unit {0}
IsOutcomeFault mode fault = ⊥

-- the faults with which the checks may fail. The checks are made after the scripts have run, and before anything is written
abbrev pub IsCheckFault : Mode → RunFault → Type 0
IsCheckFault mode (run.Refused n) = mode.strict ≡ true
IsCheckFault mode (run.Made n) = mode.no_make ≡ true
IsCheckFault mode (run.Conflicts n) = mode.conflicts ≡ true
IsCheckFault mode (run.Differs n) = mode.strict ≡ true
IsCheckFault mode run.NoItem = Unit {0}
IsCheckFault mode run.NoType = Unit {0}
IsCheckFault mode run.NoClass = Unit {0}
IsCheckFault mode fault = ⊥

-- the faults with which a run may end after it has a history
abbrev pub IsWritingFault : Mode → RunFault → Type 0
IsWritingFault mode run.Write = Unit {0}
IsWritingFault mode run.Memory = Unit {0}
IsWritingFault mode (run.Refused n) = mode.strict ≡ true
IsWritingFault mode (run.Made n) = mode.no_make ≡ true
IsWritingFault mode (run.Conflicts n) = mode.conflicts ≡ true
IsWritingFault mode (run.Differs n) = mode.strict ≡ true
IsWritingFault mode run.NoItem = Unit {0}
IsWritingFault mode run.NoType = Unit {0}
IsWritingFault mode run.NoClass = Unit {0}
IsWritingFault mode fault = ⊥

-- the scripts of the job have run with the history h: h is the history of a run of the job, and the map `after` is the map after it
pub record HaveRun (in_turn : Bool) (job : JobData) (after : MapData) (h : List EntryData) : Type 0 where
  pub run : IsRunOf in_turn job h
  pub stands : MapStands after job.setting (table_after job.setting job.table h)

-- running these scripts on the map resulted in the map `after` and the history h. For each job that has this map and these scripts, h is the history of a run, and `after` is the map after it
abbrev pub RunsScripts : Bool → MapData → List ScriptData → MapData → List EntryData → Type 0
RunsScripts in_turn map scripts after h = (job : JobData) → MapStands map job.setting job.table → scripts ≡ job.scripts → HaveRun in_turn job after h

-- whether a run still needs the map from before its scripts, after the scripts have run: to explain refusals and created buckets, to look for lost changes, or to print the commands that changed the map
abbrev pub needs_opening : Mode → Output → Bool
needs_opening mode output.AsCeph = true
needs_opening mode what = mode.explain || mode.conflicts

-- OPENING: if a run needs the map before its scripts (`needs_opening`), then a copy of that map is kept, has this setting, and represents this table
abbrev pub IsOpening : Mode → Output → Option MapData → SettingData → List Row → Type 0
IsOpening mode what kept s t = needs_opening mode what ≡ true → IsKept kept s t

-- the notes that are prepared for the possible ends of a run. Before the first call, the map of the run had the setting s and the table t.
-- `calls`: the notes of the history (`history_notes`);
-- `refused`: the notes of the history, followed by the notes of created buckets and by the notes of the lost changes `lost`;
-- `made`, if the run has `--no-make`: the lines of the calls that created more buckets than they have `add-bucket` commands, followed by the notes of the history and by the notes of the lost changes;
-- `conflicts`: the lines of the lost changes, followed by the notes of the history;
-- `whole`, if the run is strict: the notes of the history, followed by the lines of the differences that remain after the plan.
pub record AreEndNotes (mode : Mode) (text : TextData) (s : SettingData) (t : List Row) (names : List (List ℕ)) (h : List EntryData) (rest : List (List ℕ)) (lost : LostData) (end_notes : EndNotes) : Type 0 where
  pub calls : end_notes.calls.items ≡ history_notes mode text s t names h
  pub refused : end_notes.refused.items ≡ history_notes mode text s t names h ++ (created_notes mode s t names h ++ conflict_notes lost)
  pub made : mode.no_make ≡ true → end_notes.made.items ≡ created_lines mode.explain s t names h ++ (history_notes mode text s t names h ++ conflict_notes lost)
  pub conflicts : end_notes.conflicts.items ≡ lost.lines ++ history_notes mode text s t names h
  pub whole : mode.strict ≡ true → end_notes.whole.items ≡ history_notes mode text s t names h ++ text_of_lines rest

-- which of the prepared notes are printed after this fault; none after a fault that isn't listed
abbrev pub notes_after_fault : RunFault → EndNotes → List ℕ
notes_after_fault run.Write end_notes = end_notes.calls.items
notes_after_fault (run.Refused n) end_notes = end_notes.refused.items
notes_after_fault (run.Made n) end_notes = end_notes.made.items
notes_after_fault (run.Conflicts n) end_notes = end_notes.conflicts.items
notes_after_fault (run.Differs n) end_notes = end_notes.whole.items
notes_after_fault run.NoItem end_notes = end_notes.calls.items
notes_after_fault run.NoType end_notes = end_notes.calls.items
notes_after_fault run.NoClass end_notes = end_notes.calls.items
notes_after_fault fault end_notes = []

-- which of the prepared notes are printed after this result
abbrev pub notes_after : Result Summary RunFault → EndNotes → List ℕ
notes_after (Ok s) end_notes = end_notes.calls.items
notes_after (Err fault) end_notes = notes_after_fault fault end_notes

-- how a run ends if its scripts have run, and resulted in the map m, the history h and a plan.
-- `writes`: all, a part or nothing of the output was written, as IsWritten says for the result;
-- `summary`: after success the summary is that of the history;
-- `nothing`: nothing is written unless the run succeeds or fails to write;
-- `fault`: which faults are possible;
-- `strict`, `no_make`, `lossless`, `found`, `whole`: the result agrees with the refused entries, the entries that created more buckets than their calls have `add-bucket` commands, the changes that are lost, the names that the map has, and the differences that remain;
-- `told`: the notes are those of this history and this result;
-- `noted`: the notes are allowed for this result (`AreNotesOfResult`), which doesn't mention the history. This is true for any files from which the lines of the job may come.
pub record CompletedRunEnds (mode : Mode) (what : Output) (plan : PlanData) (adjusted : ℕ) (kept : Option MapData) (m : MapData) (lost : LostData) (text : TextData) (names : List (List ℕ)) (h : List EntryData) (result : Result Summary RunFault) (old new : Option (List ℕ)) (notes : List ℕ) : Type 0 where
  pub writes : (o t : List Row) → IsOpening mode what kept m.setting o → Stands m.forest t → IsWritten result old new (written_text mode what plan m.setting o t names h)
  pub summary : IfOk result (λ (s : Summary). (t : List Row) → Stands m.forest t → s ≡ summed adjusted (mode.exit_code && differs_of what plan m.setting t h) h)
  pub nothing : IfErr result (λ fault. fault ≢ run.Write → Keeps old new)
  pub fault : IfErr result (IsWritingFault mode)
  pub strict : IsStrict mode.strict h result
  pub no_make : IsNoMake mode.no_make h result
  pub lossless : IsLossless mode.conflicts lost result
  pub found : (t : List Row) → Stands m.forest t → IsFound what m.setting t result
  pub whole : IsWhole mode.strict plan.rest result
  pub told : (o : List Row) → IsOpening mode what kept m.setting o → AreNotesOfHistory mode text m.setting o names h (text_of_lines plan.rest) lost result notes
  pub noted : (origin : ℕ → OriginData) (all : Option (List ℕ)) → AreNotesOfResult mode.explain origin all result notes
