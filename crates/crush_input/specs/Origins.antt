-- The file from which each line of a job comes.
use Rattle.std.specs.Prelude.{ℕ, List, [], ◌∷◌, Option, Some, String, if◌then◌else◌, map, nat_le}
use Rattle.crush_reasons.specs.Place.{OriginData}
use Rattle.crush_options.specs.declared.parsed_options.Options.{Options}
use Rattle.crush_input.specs.declared.origins.Origins.{Origins}
use Rattle.crush_input.specs.Input.{job_script_spans}
use Rattle.crush_input.specs.Joined.{ScriptSpanData, script_span_data}

-- the origin of lines from the file with which the job begins; no lines of the job come before it
abbrev pub whole_of : List ℕ → OriginData
whole_of name = record { name = name; before = 0 }

-- the origin of the lines of a part, which are the lines that come from one file of scripts
abbrev pub within : ScriptSpanData → OriginData
within p = record { name = p.name; before = p.before }

-- the origin of a line, according to these parts in their order: that of the last part that begins at this line or before it, or `found` if there is no such part
abbrev pub origin_in : OriginData → List ScriptSpanData → ℕ → OriginData
origin_in found [] line = found
origin_in found (p ∷ ps) line = origin_in (if nat_le p.from line then within p else found) ps line

-- the origin of a line, according to the files that a run has stored in `Origins`
abbrev pub origin_of : Origins → ℕ → OriginData
origin_of o line = origin_in (whole_of o.first.now) (map script_span_data o.spans.items) line

-- the origin of each line if notes don't name a file: the job is one file without a name
abbrev pub no_origin : ℕ → OriginData
no_origin line = whole_of []

-- the name of the job's file as notes show it: empty if the job is read from standard input, or if no scripts follow it
abbrev pub first_name : {Z : Type 0} → Option (String Z) → List (String Z) → List ℕ
first_name (Some name) (s ∷ scripts) = name.bytes.items
first_name file scripts = []

-- JOB ORIGIN: the file from which a line comes, in the job that the options name
abbrev pub job_origin : (List ℕ → Option (List ℕ)) → Options → Option (List ℕ) → ℕ → OriginData
job_origin content options input line =
    origin_in (whole_of (first_name options.file options.scripts.items)) (job_script_spans content options input) line
