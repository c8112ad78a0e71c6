-- Proves that the printed text of a map, and the output of a run, become jobs if sections of scripts are appended.
use Rattle.std.proofs.Common.{◌≡◌, ℕ, ◌==◌, Bool, true, false, not, List, [], ◌∷◌, ◌++◌, refl, ap, ◌∙◌, arith}
use Rattle.std.specs.Prelude.{codes}
use Rattle.std.proofs.lemmas.Bool.{and_parts}
use Rattle.std.proofs.lemmas.Bool.Decides.{nat_tests}
use Rattle.crush_model.specs.Table.{Row}
use Rattle.crush_edits.specs.Setting.{SettingData}
use Rattle.crush_print.specs.declared.weight_form.WeightForm.{WeightForm}
use Rattle.crush_print.specs.MapText.{tunable_section, device_section, kind_section, bucket_section, rule_section, map_text}
use Rattle.crush_history.specs.History.{table_after, turns}
use Rattle.crush_history.specs.HistoryText.{names_of}
use Rattle.crush_script.specs.ScriptsText.{ends_line}
use Rattle.crush_script.proofs.ScriptTexts.{jobs_are_read_back}
use Rattle.crush_laws.specs.ReadingBack.{are_comments, AreCommentLines, IsReadAs}
use Rattle.crush_laws.specs.Written.{RunsOn, PrintedMapsRunOn, JobTextsRunOn}
use Rattle.crush_laws.proofs.HistoryComments.{history_lines_are_comments}
use Rattle.crush_laws.proofs.JobTexts.{job_history, job_texts_are_read_back}
use Rattle.crush_laws.proofs.ReadBack.{comments_behind_are_no_matter}

-- a text that is read as a map, and whose last line ends, has the property `RunsOn`
runs_on : (bytes : List ℕ) (s : SettingData) (t : List Row) → IsReadAs bytes s t → ends_line true bytes ≡ true → RunsOn bytes s t
runs_on bytes s t read last = record { read = read; job = λ scripts are short. jobs_are_read_back bytes read.setting read.map.table 0 scripts read.map.text last are short }

ends_behind : (starts : Bool) (front rest : List ℕ) → ends_line starts (front ++ rest) ≡ ends_line (ends_line starts front) rest
ends_behind starts [] rest = refl
ends_behind starts (b ∷ bs) rest = ends_behind (b == 10) bs rest

-- the last line of a printed map ends with a line feed
map_ends : (form : WeightForm) (s : SettingData) (t : List Row) → ends_line true (map_text form s t) ≡ true
unfolding map_text
map_ends form s t = ends_behind true (tunable_section s ++ device_section t ++ kind_section s ++ bucket_section form s t ++ rule_section s t) (codes "\n# end crush map\n")

-- the last line of comment lines ends with a line feed
comments_end : (begun : Bool) (bytes : List ℕ) → are_comments begun bytes ≡ true → ends_line (not begun) bytes ≡ true
comments_end begun [] h = h
comments_end false (b ∷ bs) h =
    let k = and_parts (b == 35) (are_comments true bs) h in
    let mark = k.0 in
    let feed : (b == 10) ≡ false = grind (arith, nat_tests, mark) in
    ap (λ (v : Bool). ends_line v bs) feed ∙ comments_end true bs k.1
comments_end true (b ∷ bs) h = by_test (b == 10) refl h (λ begun. comments_end begun bs)
  where
    by_test : (v : Bool) → (b == 10) ≡ v → are_comments (not v) bs ≡ true → ((begun : Bool) → are_comments begun bs ≡ true → ends_line (not begun) bs ≡ true) → ends_line (b == 10) bs ≡ true
    by_test true e h rest = ap (λ (v : Bool). ends_line v bs) e ∙ rest false h
    by_test false e h rest = ap (λ (v : Bool). ends_line v bs) e ∙ rest true h

both_end : (form : WeightForm) (s : SettingData) (t : List Row) (comments : List ℕ) → AreCommentLines comments → ends_line true (map_text form s t ++ comments) ≡ true
both_end form s t comments are = ends_behind true (map_text form s t) comments ∙ ap (λ (v : Bool). ends_line v comments) (map_ends form s t) ∙ comments_end false comments are

pub printed_maps_run_on : PrintedMapsRunOn
printed_maps_run_on form s t comments l f are = runs_on _ s t (comments_behind_are_no_matter form s t comments l f are) (both_end form s t comments are)

pub job_texts_run_on : JobTextsRunOn
job_texts_run_on form bytes job is =
    let named = job_history bytes job is in
    let h = turns job.setting job.table job.scripts in
    runs_on _ job.setting _ (job_texts_are_read_back form bytes job is) (both_end form job.setting (table_after job.setting job.table h) _ (history_lines_are_comments (names_of job.scripts) 1 h named.names named.calls))
