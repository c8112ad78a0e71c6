-- Proves that the map after the run of a job is lawful, and that the output of the run is read back as that map.
use Rattle.std.proofs.Common.{◌≡◌, ℕ, ◌<◌, ◌&&◌, Bool, true, false, cond, List, Option, Some, None, nat_le, refl, arith}
use Rattle.std.proofs.lemmas.Bool.Decides.{nat_tests}
use Rattle.std.proofs.lemmas.List.Elements.{All-map, All-weaker}
use Rattle.std.specs.Prelude.{All, bytes_eq, codes, take, drop}
use Rattle.std.specs.Str.Parse.{digits_value}
use Rattle.crush_units.specs.Name.{IsName}
use Rattle.crush_units.specs.Id.{device_from}
use Rattle.crush_units.specs.declared.limits.TheConstants.{DEVICE_IDS, LAST_DEVICE_ID}
use Rattle.crush_edits.specs.declared.edit.Edit.{Edit}
use Rattle.crush_edits.specs.declared.edit.Edit.TheVariants.{Place, Move, Swap, Reweight, ReweightSubtree, Remove, AddBucket, Rename, SetClass, RemoveClass}
use Rattle.crush_edits.specs.declared.location.Pair.{Pair}
use Rattle.crush_edits.specs.LawEdit as table
use Rattle.crush_laws.proofs.ReadBack.{printed_texts_are_read_back}
use Rattle.crush_laws.proofs.Keeps.{each_map_is_lawful}
use Rattle.crush_history.specs.declared.call.Call.{Call}
use Rattle.crush_history.specs.declared.call.Call.TheVariants.{One, Batch, Guarded}
use Rattle.crush_history.specs.Script.{ScriptData}
use Rattle.crush_history.specs.History.{untouched, table_after, turns}
use Rattle.crush_history.specs.HistoryText.{names_of}
use Rattle.crush_history.specs.LawRun.{IsCall}
use Rattle.crush_history.proofs.RunLaws.{history_keeps, turns_calls, turns_keep}
use Rattle.crush_script.specs.Job.{JobData, IsJob}
use Rattle.crush_script.specs.Lines.{map_part}
use Rattle.crush_history.specs.Said.{is_plain, device_named, IsSaidPlacing, IsSaid}
use Rattle.crush_laws.specs.Written.{IsNamed, IsNamedCall, IsNamedHistory, JobsStayLawful, JobTextsAreReadBack, JobMapsAreReadBack, HistoryTextsAreReadBack}
use Rattle.crush_laws.proofs.HistoryComments.{written_is_read_back}
use Rattle.crush_script.specs.ScriptsText.{IsSaidCall, IsSaidScript}
use Rattle.crush_script.proofs.SaidJobs.{job_said}

-- the number in the name of a device is the id of a device
device_in_range : (n : List ℕ) (d : ℕ) → device_named n ≡ Some d → d < DEVICE_IDS
device_in_range n d is = named (bytes_eq (take 4 n) (codes "osd.") && is_plain (drop 4 n)) (digits_value 10 (drop 4 n)) is
  where
    from : (b : Bool) (v : ℕ) → nat_le v LAST_DEVICE_ID ≡ b → ◌≡◌ {A = Option ℕ} (cond b (Some v) None) (Some d) → d < DEVICE_IDS
    from true v low is = grind (arith, nat_tests, low, is)
    from false v low is = absurd cc

    named : (b : Bool) (v : ℕ) → ◌≡◌ {A = Option ℕ} (cond b (device_from v) None) (Some d) → d < DEVICE_IDS
    named true v is = from (nat_le v LAST_DEVICE_ID) v refl is
    named false v is = absurd cc

-- the calls that a line can express have the forms that the table's laws require and the forms that the lines of a history have
placing_form : (d : ℕ) (n : List ℕ) (w : ℕ) (l : List Pair) → IsSaidPlacing d n w l → table.IsPlacing d n l
placing_form d n w l is = record { id = device_in_range n d is.device; name = is.name; at = is.at }

edit_form : (e : Edit) → IsSaid e → table.IsEdit e
edit_form (Place how d n w l) is = placing_form d n w l is
edit_form (Move n l) is = is.1
edit_form (Swap a b) is = tt
edit_form (Reweight n w) is = tt
edit_form (ReweightSubtree n w) is = tt
edit_form (Remove n) is = tt
edit_form (AddBucket n kind) is = is.0
edit_form (Rename from to) is = is.1
edit_form (SetClass n c) is = is.1
edit_form (RemoveClass n) is = tt

call_form : (c : Call) → IsSaidCall c → IsCall c
call_form (One e) is = edit_form e is
call_form (Batch es) is = All-weaker IsSaid table.IsEdit edit_form es is.0
call_form (Guarded seen es) is = All-weaker IsSaid table.IsEdit edit_form es is.0

pub edit_named : (e : Edit) → IsSaid e → IsNamed e
edit_named (Place how d n w l) is = (is.name, is.at)
edit_named (Move n l) is = is
edit_named (Swap a b) is = is
edit_named (Reweight n w) is = is.0
edit_named (ReweightSubtree n w) is = is.0
edit_named (Remove n) is = is
edit_named (AddBucket n kind) is = is
edit_named (Rename from to) is = is
edit_named (SetClass n c) is = is
edit_named (RemoveClass n) is = is

call_named : (c : Call) → IsSaidCall c → IsNamedCall c
call_named (One e) is = edit_named e is
call_named (Batch es) is = All-weaker IsSaid IsNamed edit_named es is.0
call_named (Guarded seen es) is = All-weaker IsSaid IsNamed edit_named es is.0

-- what holds for each call that a line can express holds for all calls of the scripts
of_calls_said : (P : Call → Type 0) → ((c : Call) → IsSaidCall c → P c) → (scripts : List ScriptData) → All IsSaidScript scripts → All (λ (x : ScriptData). All P x.calls) scripts
of_calls_said P each scripts said = All-weaker IsSaidScript (λ (x : ScriptData). All P x.calls) (λ x is. All-weaker IsSaidCall P each x.calls is.calls) scripts said

pub jobs_stay_lawful : JobsStayLawful
jobs_stay_lawful bytes job is =
    let read = each_map_is_lawful (map_part bytes) job.setting job.table job.adjusted is.map in
    turns_keep job.setting job.table job.scripts (record { lawful = read.0; fits = read.1 }) (of_calls_said IsCall call_form job.scripts (job_said bytes job is))

-- the names of the operators and the names in the calls of a job have the form of names
pub record JobHistory (job : JobData) : Type 0 where
  pub names : All IsName (names_of job.scripts)
  pub calls : IsNamedHistory (turns job.setting job.table job.scripts)

pub job_history : (bytes : List ℕ) (job : JobData) → IsJob bytes job → JobHistory job
job_history bytes job is =
    let said = job_said bytes job is in
    record {
      names = All-map IsName (λ (x : ScriptData). x.name) job.scripts (All-weaker IsSaidScript (λ (x : ScriptData). IsName x.name) (λ x own. own.name) job.scripts said);
      calls = turns_calls IsNamedCall job.setting (untouched job.table) 0 job.scripts (of_calls_said IsNamedCall call_named job.scripts said);
    }

pub job_texts_are_read_back : JobTextsAreReadBack
job_texts_are_read_back form bytes job is =
    let s = job.setting in
    let h = turns s job.table job.scripts in
    let keeps = jobs_stay_lawful bytes job is in
    let named = job_history bytes job is in
    written_is_read_back form s (table_after s job.table h) (names_of job.scripts) 1 h keeps.lawful keeps.fits named.names named.calls

pub job_maps_are_read_back : JobMapsAreReadBack
job_maps_are_read_back form bytes job is =
    let keeps = jobs_stay_lawful bytes job is in
    printed_texts_are_read_back form job.setting (table_after job.setting job.table (turns job.setting job.table job.scripts)) keeps.lawful keeps.fits

pub history_texts_are_read_back : HistoryTextsAreReadBack
history_texts_are_read_back form s t names h lawful fits named said calls =
    let keeps = history_keeps s t h (record { lawful = lawful; fits = fits }) calls in
    written_is_read_back form s (table_after s t h) names 1 h keeps.lawful keeps.fits named said
