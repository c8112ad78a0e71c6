use Rattle.std.proofs.Common.{◌≡◌, ℕ, ◌≤◌, List, length, subst, sym, ap, ◌∙◌}
use Rattle.crush_script.specs.Job.{IsJob}
use Rattle.crush_script.specs.Sections.{job_lines, lines_data}
use Rattle.crush_input.specs.Origins.{origin_of}
use Rattle.crush_input.proofs.Told.{kept_short}
use Rattle.crush_units.specs.declared.limits.TheConstants.{LONGEST_JOB}
use Rattle.crush_input.proofs.job.job_of.Goals as goal

-- the result is the job of the bytes, and what is stored of its text belongs to these bytes
pub returns-in-Ok-parsed_job-clause-only : goal.returns-in-Ok-parsed_job-clause-only
returns-in-Ok-parsed_job-clause-only g c = λ job is.
    let same = c.as_slice-text.ensures.value in
    let kept = c.in-Ok-parsed_job.ensures in
    let lines : lines_data c.in-Ok-parsed_job.read.text.lines.items ≡ job_lines c.args.bytes.items =
    ap (λ l. lines_data l.items) kept.lines ∙ c.in-Ok.ensures.lines ∙ ap job_lines same in
    let stands = c.in-Ok.ensures.only job (subst (λ (z : List ℕ). IsJob z job) (sym same) is) in
    record {
      stands = kept.job job stands;
      text = λ i. record { origin = origin_of (kept.origins i); lines = lines i; bytes = kept.bytes i; weights = kept.weights job.table stands.map.forest i };
    }

-- the bytes of a job are at most as many as a job may have
pub returns-in-Ok-parsed_job-clause-short : goal.returns-in-Ok-parsed_job-clause-short
returns-in-Ok-parsed_job-clause-short g c =
    let short = subst (λ (b : List ℕ). length b ≤ LONGEST_JOB) c.as_slice-text.ensures.value c.in-Ok.ensures.job.1.short in
    subst (λ (b : List ℕ). length b ≤ LONGEST_JOB) (sym c.in-Ok-parsed_job.ensures.bytes) (kept_short c.args.explain c.args.bytes.items short)
