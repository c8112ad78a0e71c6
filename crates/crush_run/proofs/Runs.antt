-- Runs of a job: with scripts in turn, with scripts at the same time, and runs that end early.
use Rattle.std.proofs.Common.{◌≡◌, ℕ, zero, suc, ◌<◌, ◌≤◌, ◌==◌, Bool, true, false, ◌&&◌, List, [], ◌∷◌, ◌++◌, Option, None, Some, Result, Ok, Err, length, nat_lt, refl, sym, ap, subst, ◌∙◌, arith, rules, tests}
use Rattle.std.proofs.lemmas.List.{length-append, length-map}
use Rattle.std.proofs.lemmas.List.Elements.{All-nil, All-cons}
use Rattle.std.proofs.lemmas.Result.{IfOk-weaker}
use Rattle.std.specs.Prelude.{IfOk, IfSome, is_some}
use Rattle.crush_model.specs.Stands.{Stands}
use Rattle.crush_model.specs.Table.{Row}
use Rattle.crush_edits.specs.Setting.{SettingData}
use Rattle.crush_map.specs.MapData.{MapData, MapStands}
use Rattle.crush_options.specs.declared.parsed_options.Mode.{Mode}
use Rattle.crush_history.specs.declared.script.Script.{Script}
use Rattle.crush_history.specs.Entries.{AreOf}
use Rattle.crush_history.specs.Script.{ScriptData, script_data, scripts_data}
use Rattle.crush_history.specs.History.{EntryData, of_operator, table_after, turns}
use Rattle.crush_history.specs.Turns.{calls_at, calls_of}
use Rattle.crush_history.specs.HistoryText.{names_of}
use Rattle.crush_history.proofs.Histories.{turns_are_history}
use Rattle.crush_editor.specs.Book.{MakesAll}
use Rattle.crush_input.specs.declared.output.Output.{Output}
use Rattle.crush_input.specs.declared.fault.RunFault.{RunFault}
use Rattle.crush_input.specs.declared.summary.Summary.{Summary}
use Rattle.crush_script.specs.Job.{JobData}
use Rattle.crush_since.specs.Stays.{text_of_lines}
use Rattle.crush_plan.specs.Plan.{PlanData}
use Rattle.crush_run.specs.Found.{IsFound}
use Rattle.crush_run.specs.Lost.{AreLost}
use Rattle.crush_run.specs.Output.{IsWritten, written_text}
use Rattle.crush_run.specs.Planned.{IsPlanned}
use Rattle.crush_run.specs.Run.{Ends, IsRunOf, differs_of, output_of, summed}
use Rattle.crush_input.specs.Lost.{LostData}
use Rattle.crush_input.specs.Notes.{AreNotesOfHistory, IsKept, TextData, text_of}
use Rattle.crush_reasons.specs.Place.{OriginData}
use Rattle.crush_run.specs.Early.{IsEarlyFault}
use Rattle.crush_run.specs.Stages.{CompletedRunEnds, HaveRun, IsOpening, RunsScripts, needs_opening}
use Rattle.crush_run.proofs.Early.{early_found, early_lossless, early_make, early_strict, early_told, early_whole}
use Rattle.crush_run.proofs.Noted.{lost_needs}
use Rattle.crush_run.proofs.Plans.{some_plan, some_plan_is}
use Rattle.crush_run.proofs.Written.{nothing_written}

-- a copy of a map represents each table that the map represents
pub copy_stands : {E : Type 0} (m : MapData) (r : Result MapData E) → IfOk r (λ copy. copy.setting ≡ m.setting) → IfOk r (λ copy. (t : List Row) → Stands m.forest t → Stands copy.forest t)
    → IfOk r (λ copy. (s : SettingData) (t : List Row) → MapStands m s t → MapStands copy s t)
copy_stands m (Ok copy) same stands = λ s t is. record { setting = same ∙ is.setting; forest = stands t is.forest }
copy_stands m (Err e) same stands = tt

-- the history in which the scripts run one after the other is the history of a run, both in turn and at the same time
pub turns_run : (in_turn : Bool) (job : JobData) → IsRunOf in_turn job (turns job.setting job.table job.scripts)
turns_run in_turn job =
    let law = turns_are_history job.setting job.table job.scripts in
    record { legal = law.legal; calls = law.calls; order = λ _. refl }

-- so scripts that ran one after the other have run as HaveRun says
pub in_turn_runs : (in_turn : Bool) (m : MapData) (scripts : List ScriptData) (after : MapData) (h : List EntryData)
    → ((s : SettingData) (t : List Row) → MapStands m s t → (h ≡ turns s t scripts) × MapStands after s (table_after s t (turns s t scripts))) → RunsScripts in_turn m scripts after h
in_turn_runs in_turn m scripts after h ran job stands is =
    let told = ran job.setting job.table stands in
    let own : h ≡ turns job.setting job.table job.scripts = told.0 ∙ ap (turns job.setting job.table) is in
    record {
      run = subst (IsRunOf in_turn job) (sym own) (turns_run in_turn job);
      stands = subst (λ (x : List EntryData). MapStands after job.setting (table_after job.setting job.table x)) (sym told.0) told.1;
    }

-- scripts that ran at the same time have also run as HaveRun says
pub at_once_runs : (in_turn : Bool) (m : MapData) (scripts : List ScriptData) (after : MapData) (h : List EntryData)
    → in_turn ≡ false → MakesAll m after h → ((k : ℕ) → calls_of (of_operator k h) ≡ calls_at scripts k) → RunsScripts in_turn m scripts after h
at_once_runs in_turn m scripts after h not_in_turn all calls job stands is =
    let made = all job.setting job.table stands in
    record {
      run = record {
        legal = made.0;
        calls = λ k. calls k ∙ ap (λ (x : List ScriptData). calls_at x k) is;
        order = λ yes. absurd cc;
      };
      stands = made.1;
    }

-- an operator without a script has no calls
no_calls : (scripts : List ScriptData) (k : ℕ) → length scripts ≤ k → calls_at scripts k ≡ []
no_calls [] k past = refl
no_calls (x ∷ xs) zero past = absurd (omega arith)
no_calls (x ∷ xs) (suc k) past = no_calls xs k (omega arith)

-- the calls of an operator, if the first entry is the operator's own, and if it is the entry of another operator
own_entry : (k : ℕ) (e : EntryData) (h : List EntryData) → (e.operator == k) ≡ true → calls_of (of_operator k (e ∷ h)) ≡ e.call ∷ calls_of (of_operator k h)
own_entry k e h own = rw own refl

other_entry : (k : ℕ) (e : EntryData) (h : List EntryData) → (e.operator == k) ≡ false → calls_of (of_operator k (e ∷ h)) ≡ calls_of (of_operator k h)
other_entry k e h other = rw other refl

-- if the operators from the number n on have no entries, then the operator of the first entry is below n, and these operators have no entries after the first entry either
first_below : (n : ℕ) (e : EntryData) (h : List EntryData) → ((k : ℕ) → n ≤ k → calls_of (of_operator k (e ∷ h)) ≡ []) → (k : ℕ) → n ≤ k → (e.operator == k) ≡ false
first_below n e h none k past = at (e.operator == k) refl
  where
    at : (b : Bool) → (e.operator == k) ≡ b → (e.operator == k) ≡ false
    at false other = other
    at true own = let some = ap length (sym (own_entry k e h own) ∙ none k past) in absurd (omega (arith, some))

entries_below : (n : ℕ) (h : List EntryData) → ((k : ℕ) → n ≤ k → calls_of (of_operator k h) ≡ []) → AreOf n h
entries_below n [] none = All-nil (λ (e : EntryData). e.operator < n)
entries_below n (e ∷ h) none =
    All-cons (λ (x : EntryData). x.operator < n) e h (at (nat_lt e.operator n) refl) (entries_below n h (λ k past. sym (other_entry k e h (first_below n e h none k past)) ∙ none k past))
  where
    at : (b : Bool) → nat_lt e.operator n ≡ b → e.operator < n
    at true less = search (rules, tests)
    at false past =
        let from : n ≤ e.operator = search (rules, tests) in
        let same : (e.operator == e.operator) ≡ true = search (rules, tests) in
        let other = first_below n e h none e.operator from in
        absurd cc

-- so each entry of a run is of an operator who has a script
pub entries_of_scripts : (scripts : List Script) (h : List EntryData) → ((k : ℕ) → calls_of (of_operator k h) ≡ calls_at (scripts_data scripts) k) → AreOf (length scripts) h
entries_of_scripts scripts h calls = entries_below (length scripts) h (λ k past. calls k ∙ no_calls (scripts_data scripts) k (omega (arith, past, length-map scripts script_data)))

abbrev no_losses : LostData
no_losses = record { count = 0; lines = [] }

-- a run that ended early, and has written nothing, ends as Ends says, with the history of its scripts in turn
pub ended_early : (mode : Mode) (output : Output) (job : JobData) (text : TextData) (r : Result Summary RunFault) (f : RunFault) (old : Option (List ℕ)) (notes : List ℕ) → r ≡ Err f → IsEarlyFault f
    → Ends mode output job text r old old notes
ended_early mode output job text r f old notes is early =
    let h = turns job.setting job.table job.scripts in
    let plan = some_plan output job.setting (table_after job.setting job.table h) in
    record {
      history = h;
      run = turns_run mode.in_turn job;
      plan = plan;
      planned = some_plan_is output job.setting (table_after job.setting job.table h);
      lost = no_losses;
      losses = rw is (λ late. absurd (late early));
      writes = nothing_written r f old (output_of mode output plan job h) is early;
      summary = rw is tt;
      strict = early_strict mode.strict h r f is early;
      no_make = early_make mode.no_make h r f is early;
      lossless = early_lossless mode.conflicts no_losses r f is early;
      found = early_found output job.setting (table_after job.setting job.table h) r f is early;
      whole = early_whole mode.strict plan.rest r f is early;
      noted = early_told mode text job.setting job.table (names_of job.scripts) h (text_of_lines plan.rest) no_losses r f notes is early;
    }

-- a run that has a map, a history and a plan ends as Ends says
pub left_ends : (mode : Mode) (what : Output) (plan : PlanData) (job : JobData) (adjusted : ℕ) (kept : Option MapData) (m : MapData) (lost : LostData) (text : TextData) (names : List (List ℕ)) (h es : List EntryData) (r : Result Summary RunFault) (old new : Option (List ℕ)) (notes : List ℕ)
    → CompletedRunEnds mode what plan adjusted kept m lost text names es r old new notes → ((t : List Row) → Stands m.forest t → IsPlanned what m.setting t plan) → ((o z : List Row) → (mode.conflicts ≡ true → IsKept kept job.setting o) → Stands m.forest z → AreLost mode.conflicts job.setting o names es z lost)
    → IsOpening mode what kept job.setting job.table → HaveRun mode.in_turn job m h → names ≡ names_of job.scripts → es ≡ h → adjusted ≡ job.adjusted → Ends mode what job text r old new notes
left_ends mode what plan job adjusted kept m lost text names h es r old new notes left planned losses opening ran same entries replaced =
    let own = subst (λ (e : List EntryData). CompletedRunEnds mode what plan adjusted kept m lost text names e r old new notes) entries left in
    let named = subst (λ (n : List (List ℕ)). CompletedRunEnds mode what plan adjusted kept m lost text n h r old new notes) same own in
    let ends = subst (λ (a : ℕ). CompletedRunEnds mode what plan a kept m lost text (names_of job.scripts) h r old new notes) replaced named in
    let before = subst (λ (s : SettingData). IsOpening mode what kept s job.table) (sym ran.stands.setting) opening in
    record {
      history = h;
      run = ran.run;
      plan = plan;
      planned = subst (λ (s : SettingData). IsPlanned what s (table_after job.setting job.table h) plan) ran.stands.setting (planned _ ran.stands.forest);
      lost = lost;
      losses = λ _.
          subst (λ (e : List EntryData). AreLost mode.conflicts job.setting job.table (names_of job.scripts) e (table_after job.setting job.table h) lost) entries
          (subst (λ (n : List (List ℕ)). AreLost mode.conflicts job.setting job.table n es (table_after job.setting job.table h) lost) same
          (losses job.table _ (λ on. opening (lost_needs mode what on)) ran.stands.forest));
      writes = subst (λ (s : SettingData). IsWritten r old new (written_text mode what plan s job.table (table_after job.setting job.table h) (names_of job.scripts) h)) ran.stands.setting (ends.writes _ _ before ran.stands.forest);
      summary = subst
          (λ (s : SettingData). IfOk r (λ (x : Summary). x ≡ summed job.adjusted (mode.exit_code && differs_of what plan s (table_after job.setting job.table h) h) h))
          ran.stands.setting (IfOk-weaker r _ _ (λ x is. is _ ran.stands.forest) ends.summary);
      strict = ends.strict;
      no_make = ends.no_make;
      lossless = ends.lossless;
      found = subst (λ (s : SettingData). IsFound what s (table_after job.setting job.table h) r) ran.stands.setting (ends.found _ ran.stands.forest);
      whole = ends.whole;
      noted = subst (λ (s : SettingData). AreNotesOfHistory mode text s job.table (names_of job.scripts) h (text_of_lines plan.rest) lost r notes) ran.stands.setting (ends.told _ before);
    }

-- if a copy of the map as it was read is kept whenever a run needs it, then IsOpening holds
pub kept_opening : (mode : Mode) (what : Output) (kept : Option MapData) (s : SettingData) (t : List Row) → (needs_opening mode what ≡ true → is_some kept ≡ true) → IfSome kept (λ (m : MapData). MapStands m s t) → IsOpening mode what kept s t
kept_opening mode what None s t is stands needs = let none = is needs in absurd cc
kept_opening mode what (Some m) s t is stands needs = stands

-- notes that refer to the text of bytes also refer to the text of equal bytes
pub weighed_of_all : (mode : Mode) (what : Output) (job : JobData) (origin : ℕ → OriginData) (bytes xs : List ℕ) (r : Result Summary RunFault) (old new : Option (List ℕ)) (notes : List ℕ) → bytes ≡ xs
    → Ends mode what job (text_of mode.explain origin bytes job.table) r old new notes → Ends mode what job (text_of mode.explain origin xs job.table) r old new notes
weighed_of_all mode what job origin bytes xs r old new notes same ends = subst (λ (z : List ℕ). Ends mode what job (text_of mode.explain origin z job.table) r old new notes) same ends
