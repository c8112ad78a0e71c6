-- The notes of an end of a run, and of a history.
use Rattle.std.proofs.Common.{◌≡◌, ℕ, ◌+◌, Bool, true, false, cond, List, [], ◌∷◌, ◌++◌, Option, Some, None, Result, Ok, Err, refl, sym, ap, subst, ◌∙◌, arith}
use Rattle.std.specs.Prelude.{◌||◌, IfErr, IfSome, slice_index_or}
use Rattle.crush_map.specs.MapData.{MapData}
use Rattle.crush_model.specs.Table.{Row}
use Rattle.crush_edits.specs.Setting.{SettingData}
use Rattle.crush_history.specs.History.{EntryData}
use Rattle.crush_history.specs.HistoryText.{entry_text}
use Rattle.crush_history.specs.Refused.{is_refused, refusals, refused_text}
use Rattle.crush_reasons.specs.Explained.{explained_job}
use Rattle.crush_reasons.specs.Place.{OriginData}
use Rattle.crush_options.specs.declared.parsed_options.Mode.{Mode}
use Rattle.crush_input.specs.declared.output.Output.{Output}
use Rattle.crush_input.specs.declared.output.Output.TheVariants as output
use Rattle.crush_input.specs.declared.fault.RunFault.{RunFault}
use Rattle.crush_input.specs.declared.fault.RunFault.TheVariants as run
use Rattle.crush_input.specs.declared.summary.Summary.{Summary}
use Rattle.crush_input.specs.Input.{IsInput}
use Rattle.crush_input.specs.Lost.{LostData}
use Rattle.crush_input.specs.Notes.{AreNotesOfHistory, IsNoMake, AreNotesOfResult, TextData, history_notes, refused_notes, IsStrict}
use Rattle.crush_run.specs.declared.outcome.EndNotes.{EndNotes}
use Rattle.crush_run.specs.Run.{IsRunFault}
use Rattle.crush_since.specs.Stays.{text_of_lines}
use Rattle.crush_plan.specs.Plan.{PlanData}
use Rattle.crush_run.specs.Planned.{IsWhole}
use Rattle.crush_run.specs.Stages.{AreEndNotes, CompletedRunEnds, IsWritingFault, needs_opening, notes_after}
use Rattle.crush_input.proofs.Noted.{from_same, place_of_all}
use Rattle.crush_run.proofs.Written.{keeps_same}

-- the notes for the bytes that were read are the notes for all bytes
pub ending_of_all : (mode : Mode) (o : ℕ → OriginData) (all : Option (List ℕ)) (bytes : List ℕ) (r : Result Summary RunFault) (notes : List ℕ) → IfSome all (IsInput bytes) → IfErr r (IsRunFault mode (Some bytes))
    → AreNotesOfResult mode.explain o (Some bytes) r notes → AreNotesOfResult mode.explain o all r notes
ending_of_all mode o all bytes (Ok s) notes input h told = told
ending_of_all mode o all bytes (Err (run.Job f)) notes input h told = (told.0, place_of_all mode.explain o o all bytes f notes (from_same o all bytes input) h.1 told.1)
ending_of_all mode o all bytes (Err run.Read) notes input h told = told
ending_of_all mode o all bytes (Err run.Write) notes input h told = told
ending_of_all mode o all bytes (Err run.Memory) notes input h told = told
ending_of_all mode o all bytes (Err run.Thread) notes input h told = told
ending_of_all mode o all bytes (Err (run.Refused n)) notes input h told = told
ending_of_all mode o all bytes (Err (run.Made n)) notes input h told = told
ending_of_all mode o all bytes (Err (run.Conflicts n)) notes input h told = told
ending_of_all mode o all bytes (Err (run.Differs n)) notes input h told = told
ending_of_all mode o all bytes (Err run.NoItem) notes input h told = told
ending_of_all mode o all bytes (Err run.NoType) notes input h told = told
ending_of_all mode o all bytes (Err run.NoClass) notes input h told = told
ending_of_all mode o all bytes (Err (run.SecondMap w s)) notes input h told = absurd h

-- if no entry was refused, then there are no lines of refused entries
none_refused : (names : List (List ℕ)) (n : ℕ) (h : List EntryData) → refusals h ≡ 0 → refused_text names n h ≡ []
unfolding refused_text refusals
none_refused names n [] none = refl
none_refused names n (e ∷ h) none = at (is_refused e.reply) (none_refused names (n + 1) h) none
  where
    at : (b : Bool) → (refusals h ≡ 0 → refused_text names (n + 1) h ≡ []) → cond b 1 0 + refusals h ≡ 0 → cond b (entry_text n (slice_index_or names e.operator []) e) [] ++ refused_text names (n + 1) h ≡ []
    at true others some = absurd (omega (arith, some))
    at false others rest = others (omega (arith, rest))

-- so a run without `explain` that reaches its output has no notes of refused calls
quiet_refused : (mode : Mode) (text : TextData) (s : SettingData) (t : List Row) (names : List (List ℕ)) (h : List EntryData) → (mode.strict ≡ true → refusals h ≡ 0) → mode.explain ≡ false → refused_notes mode text s t names h ≡ []
quiet_refused mode text s t names h none quiet =
    subst (λ (e : Bool). cond e (explained_job text.origin text.lines s t names h) (cond mode.strict (refused_text names 1 h) []) ≡ []) (sym quiet) (by_strict mode.strict refl)
  where
    by_strict : (b : Bool) → mode.strict ≡ b → cond b (refused_text names 1 h) [] ≡ []
    by_strict true strict = none_refused names 1 h (none strict)
    by_strict false plain = refl

quiet_notes : (mode : Mode) (text : TextData) (s : SettingData) (t : List Row) (names : List (List ℕ)) (h : List EntryData) (notes : List ℕ) → (mode.explain ≡ false → text.weights ≡ []) → (mode.strict ≡ true → refusals h ≡ 0)
    → (mode.explain ≡ false → notes ≡ history_notes mode text s t names h)
    → mode.explain ≡ false → notes ≡ []
quiet_notes mode text s t names h notes plain none is quiet = is quiet ∙ (λ i. quiet_refused mode text s t names h none quiet i ++ plain quiet i)

-- a run that was out of memory before anything was written
pub memory_ends : (mode : Mode) (what : Output) (plan : PlanData) (adjusted : ℕ) (kept : Option MapData) (m : MapData) (lost : LostData) (text : TextData) (names : List (List ℕ)) (h : List EntryData) (r : Result Summary RunFault) (old : Option (List ℕ)) (notes : List ℕ) → r ≡ Err run.Memory → notes ≡ []
    → CompletedRunEnds mode what plan adjusted kept m lost text names h r old old notes
memory_ends mode what plan adjusted kept m lost text names h r old notes is none = record {
  writes = λ o t opening stands. rw is (keeps_same old);
  summary = rw is tt;
  nothing = rw is (λ other. keeps_same old);
  fault = rw is tt;
  strict = rw is tt;
  no_make = rw is tt;
  lossless = rw is tt;
  found = λ t stands. rw is tt;
  whole = rw is tt;
  told = λ o opening. rw is tt;
  noted = λ origin all. rw is none;
}

in_first : (a b : Bool) → a ≡ true → (a || b) ≡ true
in_first true b on = refl
in_first false b on = absurd cc

in_second : (a b : Bool) → b ≡ true → (a || b) ≡ true
in_second true b on = refl
in_second false b on = on

-- a run with reasons needs the map as it was read
pub explained_needs : (mode : Mode) (what : Output) → mode.explain ≡ true → needs_opening mode what ≡ true
explained_needs mode output.Map on = in_first mode.explain mode.conflicts on
explained_needs mode (output.Tree part) on = in_first mode.explain mode.conflicts on
explained_needs mode (output.Since old) on = in_first mode.explain mode.conflicts on
explained_needs mode (output.Changes old) on = in_first mode.explain mode.conflicts on
explained_needs mode output.AsCeph on = refl
explained_needs mode (output.To w) on = in_first mode.explain mode.conflicts on

-- and so does a run that looks for lost changes
pub lost_needs : (mode : Mode) (what : Output) → mode.conflicts ≡ true → needs_opening mode what ≡ true
lost_needs mode output.Map on = in_second mode.explain mode.conflicts on
lost_needs mode (output.Tree part) on = in_second mode.explain mode.conflicts on
lost_needs mode (output.Since old) on = in_second mode.explain mode.conflicts on
lost_needs mode (output.Changes old) on = in_second mode.explain mode.conflicts on
lost_needs mode output.AsCeph on = refl
lost_needs mode (output.To w) on = in_second mode.explain mode.conflicts on

-- the notes that are chosen for a result are those of the history and this result
pub told_of_end : (mode : Mode) (text : TextData) (s : SettingData) (t : List Row) (names : List (List ℕ)) (h : List EntryData) (rest : List (List ℕ)) (lost : LostData) (r : Result Summary RunFault) (noted : EndNotes) (notes : List ℕ) → AreEndNotes mode text s t names h rest lost noted
    → IsNoMake mode.no_make h r → IsWhole mode.strict rest r → notes ≡ notes_after r noted → AreNotesOfHistory mode text s t names h (text_of_lines rest) lost r notes
told_of_end mode text s t names h rest lost (Ok x) noted notes are made whole is = is ∙ are.calls
told_of_end mode text s t names h rest lost (Err (run.Job j)) noted notes are made whole is = tt
told_of_end mode text s t names h rest lost (Err run.Read) noted notes are made whole is = tt
told_of_end mode text s t names h rest lost (Err run.Write) noted notes are made whole is = is ∙ are.calls
told_of_end mode text s t names h rest lost (Err run.Memory) noted notes are made whole is = tt
told_of_end mode text s t names h rest lost (Err run.Thread) noted notes are made whole is = tt
told_of_end mode text s t names h rest lost (Err (run.Refused n)) noted notes are made whole is = is ∙ are.refused
told_of_end mode text s t names h rest lost (Err (run.Made n)) noted notes are made whole is = is ∙ are.made made.0
told_of_end mode text s t names h rest lost (Err (run.Conflicts n)) noted notes are made whole is = is ∙ are.conflicts
told_of_end mode text s t names h rest lost (Err (run.Differs n)) noted notes are made whole is = is ∙ are.whole whole.0
told_of_end mode text s t names h rest lost (Err run.NoItem) noted notes are made whole is = is ∙ are.calls
told_of_end mode text s t names h rest lost (Err run.NoType) noted notes are made whole is = is ∙ are.calls
told_of_end mode text s t names h rest lost (Err run.NoClass) noted notes are made whole is = is ∙ are.calls
told_of_end mode text s t names h rest lost (Err (run.SecondMap w o)) noted notes are made whole is = tt

-- and without `explain` there are none, except those of what ended the run
pub noted_of_end : (mode : Mode) (text : TextData) (s : SettingData) (t : List Row) (names : List (List ℕ)) (h : List EntryData) (rest : List (List ℕ)) (lost : LostData) (r : Result Summary RunFault) (noted : EndNotes) (notes : List ℕ) (origin : ℕ → OriginData) (all : Option (List ℕ))
    → (mode.explain ≡ false → AreEndNotes mode text s t names h rest lost noted) → IfErr r (IsWritingFault mode) → IsStrict mode.strict h r → (mode.explain ≡ false → text.weights ≡ []) → notes ≡ notes_after r noted → AreNotesOfResult mode.explain origin all r notes
noted_of_end mode text s t names h rest lost (Ok x) noted notes origin all are may strict plain is = quiet_notes mode text s t names h notes plain strict (λ quiet. is ∙ (are quiet).calls)
noted_of_end mode text s t names h rest lost (Err (run.Job j)) noted notes origin all are may strict plain is = absurd may
noted_of_end mode text s t names h rest lost (Err run.Read) noted notes origin all are may strict plain is = absurd may
noted_of_end mode text s t names h rest lost (Err run.Write) noted notes origin all are may strict plain is = quiet_notes mode text s t names h notes plain strict (λ quiet. is ∙ (are quiet).calls)
noted_of_end mode text s t names h rest lost (Err run.Memory) noted notes origin all are may strict plain is = is
noted_of_end mode text s t names h rest lost (Err run.Thread) noted notes origin all are may strict plain is = absurd may
noted_of_end mode text s t names h rest lost (Err (run.Refused n)) noted notes origin all are may strict plain is = tt
noted_of_end mode text s t names h rest lost (Err (run.Made n)) noted notes origin all are may strict plain is = tt
noted_of_end mode text s t names h rest lost (Err (run.Conflicts n)) noted notes origin all are may strict plain is = tt
noted_of_end mode text s t names h rest lost (Err (run.Differs n)) noted notes origin all are may strict plain is = tt
noted_of_end mode text s t names h rest lost (Err run.NoItem) noted notes origin all are may strict plain is = quiet_notes mode text s t names h notes plain strict (λ quiet. is ∙ (are quiet).calls)
noted_of_end mode text s t names h rest lost (Err run.NoType) noted notes origin all are may strict plain is = quiet_notes mode text s t names h notes plain strict (λ quiet. is ∙ (are quiet).calls)
noted_of_end mode text s t names h rest lost (Err run.NoClass) noted notes origin all are may strict plain is = quiet_notes mode text s t names h notes plain strict (λ quiet. is ∙ (are quiet).calls)
noted_of_end mode text s t names h rest lost (Err (run.SecondMap w o)) noted notes origin all are may strict plain is = absurd may
