-- The run of a job: what its contract promises, on one page.
use Rattle.std.specs.Prelude.{◌≡◌, ◌==◌, ℕ, Option, Result, IfErr, IfOk, IfSome, List, Bool, true, false, ◌&&◌, ◌||◌, not, length, nat_lt, None, Some}
use Rattle.crush_units.specs.declared.id.ItemId.{ItemId}
use Rattle.crush_model.specs.Forest.{rows_of}
use Rattle.crush_model.specs.Table.{Row}
use Rattle.crush_edits.specs.Setting.{SettingData}
use Rattle.crush_since.specs.Since.{PlainMap, plain_map}
use Rattle.crush_since.specs.SincePart.{is_changed, is_part_changed}
use Rattle.crush_since.specs.SinceNames.{is_changed_by_name}
use Rattle.crush_since.specs.Stays.{text_of_lines}
use Rattle.crush_plan.specs.Plan.{PlanData}
use Rattle.crush_history.specs.History.{EntryData, IsLegal, of_operator, table_after, changes, turns}
use Rattle.crush_history.specs.Turns.{calls_at, calls_of}
use Rattle.crush_history.specs.HistoryText.{names_of}
use Rattle.crush_script.specs.Job.{JobData, HasJob}
use Rattle.crush_options.specs.declared.parsed_options.Mode.{Mode}
use Rattle.crush_input.specs.declared.output.Output.{Output}
use Rattle.crush_input.specs.declared.output.Output.TheVariants as output
use Rattle.crush_input.specs.declared.fault.RunFault.{RunFault}
use Rattle.crush_input.specs.declared.fault.RunFault.TheVariants as run
use Rattle.crush_input.specs.declared.summary.Summary.{Summary}
use Rattle.crush_input.specs.Notes.{AreNotesOfHistory, IsNoMake, IsStrict, TextData}
use Rattle.crush_input.specs.Faults.{IsRefusal}
use Rattle.crush_input.specs.Options.{name_text}
use Rattle.crush_input.specs.Lost.{IsLossless, LostData}
use Rattle.crush_run.specs.Early.{IsEarlyFault}
use Rattle.crush_run.specs.Found.{IsFound, named_item}
use Rattle.crush_run.specs.Lost.{AreLost}
use Rattle.crush_run.specs.Output.{IsWritten, written_text}
use Rattle.crush_run.specs.Planned.{IsPlanned, IsWhole}

-- RUN: h is a possible history of a run of the job. It is legal (`IsLegal`): each reply is the one that the rules give for its call on the table after all earlier calls. The calls of each operator are exactly those of its script, in order, and there are no other calls. If the run is in turn, then h is the one history in which the scripts run one after the other.
pub record IsRunOf (in_turn : Bool) (job : JobData) (h : List EntryData) : Type 0 where
  pub legal : IsLegal job.setting job.table h
  pub calls : (k : ℕ) → calls_of (of_operator k h) ≡ calls_at job.scripts k
  pub order : in_turn ≡ true → h ≡ turns job.setting job.table job.scripts

-- OUTPUT: the selected output for the map after the history. If the options select the history, the output contains the history. Except for a plan, the output is a function of the job, its history and the options.
abbrev pub output_of : Mode → Output → PlanData → JobData → List EntryData → List ℕ
output_of mode what plan job h = written_text mode what plan job.setting job.table (table_after job.setting job.table h) (names_of job.scripts) h

-- whether anything has changed between two maps, with items matched by id. If a part is given, only changes of the items of this part are counted; otherwise changes of all items and of the setting
abbrev pub is_changed_by_id : Option ItemId → PlainMap → PlainMap → Bool
is_changed_by_id None old new = is_changed old new
is_changed_by_id (Some i) old new = is_part_changed i old new

-- whether anything has changed between two maps. The first argument says whether items are matched by name. If a name is given, then only
-- the part below the item with this name is compared. If items are matched by id, this item is the one that has the name in the new map.
abbrev pub has_changed : Bool → Option (List ℕ) → PlainMap → PlainMap → Bool
has_changed false under old new = is_changed_by_id (named_item new.table under) old new
has_changed true under old new = is_changed_by_name under old new

-- DIFFERS: whether there is something to report about the map that has this setting and this table after the history h. If the output is what has changed since another map, there is something to report if anything has changed. If this output is restricted to an item (`--under`), only changes of this item and of the items below it in at least one of the maps count. The type `--down-to` and the class `--class` don't matter. If the output is a plan, there is something to report if the plan has an edit or leaves a difference. For any other output, there is something to report if an entry of h changed the map.
abbrev pub differs_of : Output → PlanData → SettingData → List Row → List EntryData → Bool
differs_of (output.Since old) plan s t h = has_changed old.by_name (name_text old.under) (plain_map old.map.setting (rows_of old.map.forest)) (plain_map s t)
differs_of (output.Changes old) plan s t h = is_changed_by_id (named_item t (name_text old.part.under)) (plain_map old.map.setting (rows_of old.map.forest)) (plain_map s t)
differs_of (output.To target) plan s t h = not (length plan.edits == 0) || not (length plan.rest == 0)
differs_of what plan s t h = nat_lt 0 (changes h)

-- SUMMARY: the number of bucket weights in the map's text that were replaced by sums, the number of calls, the number of calls that changed
-- the map, and whether there is something to report
abbrev pub summed : ℕ → Bool → List EntryData → Summary
summed adjusted differs h = record { adjusted = adjusted; calls = length h; changes = changes h; differs = differs }

-- the summary of a run of the job with the history h. It says that there is something to report only if the run has `exit_code`
abbrev pub summary_of : Mode → Output → PlanData → JobData → List EntryData → Summary
summary_of mode what plan job h =
    summed job.adjusted (mode.exit_code && differs_of what plan job.setting (table_after job.setting job.table h) h) h

-- ENDS: how a run of the job ends. There is a history of such a run, and a plan if one is selected, such that:
-- `writes`: after success the whole output is written, after a failed write a proper prefix of it, otherwise nothing;
-- `summary`: after success the summary is that of the history;
-- `losses`: `lost` has the changes that are lost in the run, if the run looks for them. This field says nothing if the run ended with a fault of `IsEarlyFault`: such a run has ended before all scripts had run, or memory has run out, which may also happen after the scripts;
-- `strict`, `no_make`, `lossless`, `found`, `whole`: the result agrees with the refused entries, the entries that created more buckets than their calls have `add-bucket` commands, the lost changes, the names that the map has, and the differences that remain after the plan;
-- `noted`: the notes are those of the history and this result, and refer to the text `text`.
pub record Ends (mode : Mode) (what : Output) (job : JobData) (text : TextData) (result : Result Summary RunFault) (old new : Option (List ℕ)) (notes : List ℕ) : Type 0 where
  pub history : List EntryData
  pub run : IsRunOf mode.in_turn job history
  pub plan : PlanData
  pub planned : IsPlanned what job.setting (table_after job.setting job.table history) plan
  pub lost : LostData
  pub losses : IfErr result (λ fault. IsEarlyFault fault → ⊥) → AreLost mode.conflicts job.setting job.table (names_of job.scripts) history (table_after job.setting job.table history) lost
  pub writes : IsWritten result old new (output_of mode what plan job history)
  pub summary : IfOk result (λ (s : Summary). s ≡ summary_of mode what plan job history)
  pub strict : IsStrict mode.strict history result
  pub no_make : IsNoMake mode.no_make history result
  pub lossless : IsLossless mode.conflicts lost result
  pub found : IsFound what job.setting (table_after job.setting job.table history) result
  pub whole : IsWhole mode.strict plan.rest result
  pub noted : AreNotesOfHistory mode text job.setting job.table (names_of job.scripts) history (text_of_lines plan.rest) lost result notes

-- whether a run may end with this fault; `all` has the bytes, if they are known.
-- Read and Memory: always possible.
-- Job: the bytes have this fault, and the fault isn't that memory ran out.
-- Write, NoItem, NoType, NoClass: the bytes are a job.
-- Thread: the bytes are a job, and the run isn't in turn.
-- Refused and Differs: the bytes are a job, and the run is strict.
-- Made: the bytes are a job, and the run has `no_make`, so that calls may create buckets only by `add-bucket`.
-- Conflicts: the bytes are a job, and the run has `conflicts`, so that it looks for lost changes.
-- A fault of a second map: never possible, because a run of a job reads no second map.
abbrev pub IsRunFault : Mode → Option (List ℕ) → RunFault → Type 0
IsRunFault mode all (run.Job fault) = IsRefusal all fault
IsRunFault mode all run.Write = IfSome all HasJob
IsRunFault mode all run.Read = Unit {0}
IsRunFault mode all run.Memory = Unit {0}
IsRunFault mode all run.Thread = (mode.in_turn ≡ false) × IfSome all HasJob
IsRunFault mode all (run.Refused n) = (mode.strict ≡ true) × IfSome all HasJob
IsRunFault mode all (run.Made n) = (mode.no_make ≡ true) × IfSome all HasJob
IsRunFault mode all (run.Conflicts n) = (mode.conflicts ≡ true) × IfSome all HasJob
IsRunFault mode all (run.Differs n) = (mode.strict ≡ true) × IfSome all HasJob
IsRunFault mode all run.NoItem = IfSome all HasJob
IsRunFault mode all run.NoType = IfSome all HasJob
IsRunFault mode all run.NoClass = IfSome all HasJob
IsRunFault mode all (run.SecondMap which fault) = ⊥
