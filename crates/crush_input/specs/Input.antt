-- How the bytes that were read compare with all bytes that could be read.
use Rattle.std.specs.Prelude.{◌≡◌, ◌≤◌, ◌+◌, ◌-◌, ◌++◌, ◌∷◌, ℕ, List, [], Option, None, Some, IfSome, String, length, map, take}
use Rattle.std.specs.Io.KnownBytes.{Consumes}
use Rattle.crush_options.specs.declared.parsed_options.Options.{Options}
use Rattle.crush_input.specs.declared.input.Joined.{Joined}
use Rattle.crush_input.specs.Joined.{ScriptSpanData, joined, script_span_data, script_span_of, script_spans_of, with_scripts}
use Rattle.crush_units.specs.declared.limits.TheConstants.{LONGEST_JOB}

-- `bytes` are the bytes that were read, and `all` are all bytes that could be read. If at least one of these lists isn't longer than a job may be, the two lists are equal
pub record IsInput (bytes all : List ℕ) : Type 0 where
  pub read : length bytes ≤ LONGEST_JOB → bytes ≡ all
  pub whole : length all ≤ LONGEST_JOB → bytes ≡ all

-- `all` are all bytes of a job that could be read, and the bytes of `read` are those that were read (`IsInput`). `stand` are the parts of the job. A part says which lines of the job come from one file of scripts. If `all` isn't longer than a job may be, then `read` has the parts `stand`
pub record IsJoined (read : Joined) (all : List ℕ) (stand : List ScriptSpanData) : Type 0 where
  pub bytes : IsInput read.bytes.items all
  pub spans : length all ≤ LONGEST_JOB → map script_span_data read.spans.items ≡ stand

-- the number of bytes that may still be read after these bytes of a job: as many as the job may still have, and one more, so that a job that is too long is noticed
abbrev pub readable_bytes : List ℕ → ℕ
readable_bytes bytes = (LONGEST_JOB + 1) - length bytes

-- READ AND APPENDED: the script in the file `name` was read and appended to the job `before`. The result is `after`, which also has a part with the lines of this script. If the file's bytes are known, the script is their first `readable_bytes` bytes.
pub record IsReadAndAppended (before after : Joined) (name : List ℕ) (all : Option (List ℕ)) : Type 0 where
  pub script : List ℕ
  pub read : IfSome all (λ bytes. script ≡ take (readable_bytes before.bytes.items) bytes)
  pub bytes : after.bytes.items ≡ joined before.bytes.items name script
  pub spans : map script_span_data after.spans.items ≡ map script_span_data before.spans.items ++ script_span_of before.bytes.items name script ∷ []

-- the bytes with which a job begins: those of the file that the command line names, or those of standard input if it names no file. `content` gives the bytes of a file by its name, if they are known
abbrev pub first_bytes : {Z : Type 0} → (List ℕ → Option (List ℕ)) → Option (String Z) → Option (List ℕ) → Option (List ℕ)
first_bytes content None input = input
first_bytes content (Some name) input = content name.bytes.items

-- JOB BYTES: the bytes of the job that the options select, if they are known: the bytes with which the job begins, followed by the scripts of files
abbrev pub job_bytes : (List ℕ → Option (List ℕ)) → Options → Option (List ℕ) → Option (List ℕ)
job_bytes content options input = with_scripts content (first_bytes content options.file input) options.scripts.items

-- which lines of the job come from each file of scripts
abbrev pub job_script_spans : (List ℕ → Option (List ℕ)) → Options → Option (List ℕ) → List ScriptSpanData
job_script_spans content options input = script_spans_of content (first_bytes content options.file input) options.scripts.items

-- TAKEN: at most `most` bytes were taken from the reader, in the reader's order
abbrev pub TakesMost : ℕ → Option (List ℕ) → Option (List ℕ) → Type 0
TakesMost most old new = (taken : List ℕ) × (length taken ≤ most) × Consumes old new taken

-- at most LONGEST_JOB + 1 bytes were taken from the reader
abbrev pub TakesFew : Option (List ℕ) → Option (List ℕ) → Type 0
TakesFew old new = TakesMost (LONGEST_JOB + 1) old new
