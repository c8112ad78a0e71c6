use Rattle.std.proofs.Common.{◌≡◌, ℕ, ◌+◌, ◌≤◌, List, [], Result, Ok, Err, length, is_ok, true≢false, inl, inr, refl, sym, ap, subst, ◌∙◌, arith}
use Rattle.std.proofs.lemmas.List.{length-map}
use Rattle.std.proofs.lemmas.Result.{err_from_is_err_and}
use Rattle.crush_units.specs.Words.{words}
use Rattle.crush_text.specs.declared.fault.TextFault.{TextFault}
use Rattle.crush_text.specs.Document.{IsMapText}
use Rattle.crush_text.specs.Flaw.{IsFlawOrOutOfMemory, IsOutOfMemory}
use Rattle.crush_text.specs.InTime.{IsFoundInTime}
use Rattle.crush_text.proofs.Laws.{no_flaw_of_memory}
use Rattle.crush_script.specs.Fault.{is_out_of_memory, lacks_memory}
use Rattle.crush_script.specs.MapPart.{IsTextFault}
use Rattle.crush_script.specs.Lines.{lines, line_feeds, map_part, section_part, section_line}
use Rattle.crush_history.specs.Script.{ScriptData, script_data, scripts_data}
use Rattle.crush_script.specs.Sections.{SectionsData, no_sections, lines_in, sections_data, sections_of, with_lines}
use Rattle.crush_script.specs.Job.{JobData, IsJobFault}
use Rattle.crush_script.specs.Steps.{FailsAs}
use Rattle.crush_model.specs.Table.{Row}
use Rattle.crush_edits.specs.Setting.{SettingData}
use Rattle.crush_units.specs.declared.limits.TheConstants.{LONGEST_JOB}
use Rattle.crush_script.specs.declared.fault.JobFault.{JobFault}
use Rattle.crush_script.specs.declared.fault.JobFault.TheVariants.{BadLine, NoSuchCommand, OpenBatch, TooManyOperators, DuplicateOperator, Text, OutOfMemory, TooLong, TooManyCalls}
use Rattle.crush_script.proofs.Few.{calls_few, scripts_few}
use Rattle.crush_script.proofs.job.read_job.Goals as goal

-- the result of reading the lines after the map's text is the result of reading the job's sections
sections_of-cut : (bytes text rest : List ℕ) (feeds : ℕ) (said : Result SectionsData JobFault) → text ≡ map_part bytes → rest ≡ section_part bytes → feeds ≡ line_feeds text
    → with_lines (feeds + 1) no_sections (lines rest) ≡ said → sections_of bytes ≡ said
sections_of-cut bytes text rest feeds said front back counted says =
    let first : feeds + 1 ≡ section_line bytes = ap (λ (n : ℕ). n + 1) (counted ∙ ap line_feeds front) in
    (λ i. with_lines (sym first i) no_sections (lines (sym back i))) ∙ says

-- if the definition gives sections, it doesn't also give a fault
ok_is_no_err : (said : SectionsData) (fault : JobFault) (given : Result SectionsData JobFault) → given ≡ Ok said → given ≡ Err fault → ⊥
ok_is_no_err said fault given ok err = true≢false (sym (ap is_ok ok) ∙ ap is_ok err)

-- if the definition gives sections, reading them can only fail with OutOfMemory
memory_alone : (fault : JobFault) (said : SectionsData) (given : Result SectionsData JobFault) → given ≡ Ok said → FailsAs fault given → fault ≡ OutOfMemory
memory_alone (BadLine number why) said given ok err = absurd (ok_is_no_err said (BadLine number why) given ok err)
memory_alone (NoSuchCommand number) said given ok err = absurd (ok_is_no_err said (NoSuchCommand number) given ok err)
memory_alone (OpenBatch number) said given ok err = absurd (ok_is_no_err said (OpenBatch number) given ok err)
memory_alone (TooManyOperators number) said given ok err = absurd (ok_is_no_err said (TooManyOperators number) given ok err)
memory_alone (DuplicateOperator number) said given ok err = absurd (ok_is_no_err said (DuplicateOperator number) given ok err)
memory_alone (TooManyCalls number) said given ok err = absurd (ok_is_no_err said (TooManyCalls number) given ok err)
memory_alone (Text fault) said given ok err = absurd err
memory_alone OutOfMemory said given ok err = refl
memory_alone TooLong said given ok err = absurd err

-- if reading the lines after a map's text fails, then the fault is one that the job may have
fault_of_lines : (fault : JobFault) (bytes : List ℕ) (s : SettingData) (t : List Row) (n : ℕ) → length bytes ≤ LONGEST_JOB → IsMapText (map_part bytes) s t n → FailsAs fault (sections_of bytes) → IsJobFault bytes fault
fault_of_lines (BadLine number why) bytes s t n short map err = record { short = short; setting = s; table = t; adjusted = n; map = map; sections = err }
fault_of_lines (NoSuchCommand number) bytes s t n short map err = record { short = short; setting = s; table = t; adjusted = n; map = map; sections = err }
fault_of_lines (OpenBatch number) bytes s t n short map err = record { short = short; setting = s; table = t; adjusted = n; map = map; sections = err }
fault_of_lines (TooManyOperators number) bytes s t n short map err = record { short = short; setting = s; table = t; adjusted = n; map = map; sections = err }
fault_of_lines (DuplicateOperator number) bytes s t n short map err = record { short = short; setting = s; table = t; adjusted = n; map = map; sections = err }
fault_of_lines (TooManyCalls number) bytes s t n short map err = record { short = short; setting = s; table = t; adjusted = n; map = map; sections = err }
fault_of_lines (Text fault) bytes s t n short map err = absurd err
fault_of_lines OutOfMemory bytes s t n short map err = record { short = short; setting = s; table = t; adjusted = n; map = map }
fault_of_lines TooLong bytes s t n short map err = absurd err

-- two lists of sections with the same text have the same scripts
scripts_of : Result SectionsData JobFault → List ScriptData
scripts_of (Ok d) = d.scripts
scripts_of (Err fault) = []

same_scripts : (x y : SectionsData) → ◌≡◌ {A = Result SectionsData JobFault} (Ok x) (Ok y) → x.scripts ≡ y.scripts
unfolding scripts_of
same_scripts x y e = ap scripts_of e

pub returns-clause-job : goal.returns-clause-job
returns-clause-job c =
    let m = c.in_ok-map.ensures.map in
    let job : JobData = record { setting = c.in_ok-map.map.setting; table = m.0; adjusted = c.in_ok-map.adjusted; scripts = scripts_data c.in_ok-sections.sections.scripts.items } in (
      job,
      record {
        short = omega arith;
        map = subst (λ (x : List ℕ). IsMapText x job.setting job.table job.adjusted) c.cut_job.ensures.map m.1;
        said = sections_data c.in_ok-sections.sections;
        sections = sections_of-cut c.args.bytes.now _ _ _ _ c.cut_job.ensures.map c.cut_job.ensures.sections c.line_feeds.ensures.count c.in_ok-sections.ensures;
        scripts = refl;
      },
      record { map = record { setting = refl; forest = m.2 }; adjusted = refl; scripts = refl },
    )

pub returns-clause-only : goal.returns-clause-only
returns-clause-only c = λ job is.
    let own = sections_of-cut c.args.bytes.now _ _ _ _ c.cut_job.ensures.map c.cut_job.ensures.sections c.line_feeds.ensures.count c.in_ok-sections.ensures in
    let m = c.in_ok-map.ensures.spelled job.setting job.table job.adjusted (subst (λ (x : List ℕ). IsMapText x job.setting job.table job.adjusted) (sym c.cut_job.ensures.map) is.map) in
    record {
      map = m.0;
      adjusted = m.1;
      scripts = same_scripts (sections_data c.in_ok-sections.sections) is.said (sym own ∙ is.sections) ∙ is.scripts;
    }

pub returns-clause-lines : goal.returns-clause-lines
returns-clause-lines c =
    let own = sections_of-cut c.args.bytes.now _ _ _ _ c.cut_job.ensures.map c.cut_job.ensures.sections c.line_feeds.ensures.count c.in_ok-sections.ensures in
    sym (ap lines_in own)

pub returns-clause-few : goal.returns-clause-few
returns-clause-few c = calls_few (c.line_feeds.result + 1) (lines c.cut_job.result.1.now) (sections_data c.in_ok-sections.sections) c.in_ok-sections.ensures

pub returns-clause-operators : goal.returns-clause-operators
returns-clause-operators c =
    let few = scripts_few (c.line_feeds.result + 1) (lines c.cut_job.result.1.now) (sections_data c.in_ok-sections.sections) c.in_ok-sections.ensures in
    omega (arith, few, length-map c.in_ok-sections.sections.scripts.items script_data)

-- if reading the map's text fails, then the text has a flaw and is the text of no map; or memory ran out before a flaw was reached
text_fault : (text : List ℕ) (fault : TextFault) → IsFlawOrOutOfMemory text fault → IsFoundInTime text fault → ((s : SettingData) (t : List Row) (n : ℕ) → IsMapText text s t n → IsOutOfMemory fault) → IsTextFault text fault
text_fault text fault (inl want) told only = inr (record { memory = want; told = told })
text_fault text fault (inr flaw) told only = inl (record { flaw = flaw; none = λ s t n map. no_flaw_of_memory (words 0 text) fault flaw (only s t n map) })

pub returns-in_err-map-clause-memory : goal.returns-in_err-map-clause-memory
returns-in_err-map-clause-memory c =
    let p = err_from_is_err_and c.from_residual.result c.from_residual.ensures.1 in
    λ job is.
    let want = c.in_err-map.ensures.only job.setting job.table job.adjusted (subst (λ (x : List ℕ). IsMapText x job.setting job.table job.adjusted) (sym c.cut_job.ensures.map) is.map) in
    rw (p.1, p.2) (ap is_out_of_memory want)

pub returns-in_err-map-clause-fault : goal.returns-in_err-map-clause-fault
returns-in_err-map-clause-fault c =
    let p = err_from_is_err_and c.from_residual.result c.from_residual.ensures.1 in
    let fault = c.in_err-map.field-0.0 in
    let is = text_fault _ fault c.in_err-map.ensures.flaw c.in_err-map.ensures.memory c.in_err-map.ensures.only in
    rw (p.1, p.2) (record { short = omega arith; map = subst (λ (x : List ℕ). IsTextFault x fault) c.cut_job.ensures.map is })

-- a fault of the lines after the map's text agrees with the result of reading the job's sections
cut_fails : (fault : JobFault) (bytes text rest : List ℕ) (feeds : ℕ) → text ≡ map_part bytes → rest ≡ section_part bytes → feeds ≡ line_feeds text
    → FailsAs fault (with_lines (feeds + 1) no_sections (lines rest)) → FailsAs fault (sections_of bytes)
cut_fails fault bytes text rest feeds front back counted = subst (FailsAs fault) (sym (sections_of-cut bytes text rest feeds (with_lines (feeds + 1) no_sections (lines rest)) front back counted refl))

pub returns-in_err-sections-clause-memory : goal.returns-in_err-sections-clause-memory
returns-in_err-sections-clause-memory c =
    let p = err_from_is_err_and c.from_residual-in_err-sections.result c.from_residual-in_err-sections.ensures.1 in
    λ job is. rw (p.1, p.2) (ap lacks_memory (memory_alone c.in_err-sections.field-0.0 is.said (sections_of c.args.bytes.now) is.sections (cut_fails c.in_err-sections.field-0.0 c.args.bytes.now _ _ _ c.cut_job.ensures.map c.cut_job.ensures.sections c.line_feeds.ensures.count c.in_err-sections.ensures)))

pub returns-in_err-sections-clause-fault : goal.returns-in_err-sections-clause-fault
returns-in_err-sections-clause-fault c =
    let p = err_from_is_err_and c.from_residual-in_err-sections.result c.from_residual-in_err-sections.ensures.1 in
    let m = c.in_ok-map.ensures.map in
    rw (p.1, p.2) (fault_of_lines c.in_err-sections.field-0.0 c.args.bytes.now c.in_ok-map.map.setting m.0 c.in_ok-map.adjusted (omega arith) (subst (λ (x : List ℕ). IsMapText x c.in_ok-map.map.setting m.0 c.in_ok-map.adjusted) c.cut_job.ensures.map m.1) (cut_fails c.in_err-sections.field-0.0 c.args.bytes.now _ _ _ c.cut_job.ensures.map c.cut_job.ensures.sections c.line_feeds.ensures.count c.in_err-sections.ensures))
