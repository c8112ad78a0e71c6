-- A job of several files: the first file, followed by the scripts of other files.
use Rattle.std.specs.Prelude.{ℕ, ◌+◌, ◌-◌, ◌==◌, Bool, true, false, ◌&&◌, ◌||◌, List, [], ◌∷◌, ◌++◌, Option, Some, None, codes, if◌then◌else◌, length, take, drop, slice_index, String}
use Rattle.std.specs.List.{position_or_len}
use Rattle.crush_units.specs.Name.{is_name}
use Rattle.crush_script.specs.Lines.{line_feeds}
use Rattle.crush_input.specs.declared.joined.ScriptSpan.{ScriptSpan}

-- a line feed, or nothing if the bytes end with a line feed already
abbrev pub line_end : List ℕ → List ℕ
line_end bytes = if slice_index bytes (length bytes - 1) == 10 then [] else codes "\n"

-- whether a byte is a blank within a line: a space, a tab or a carriage return
abbrev pub is_line_blank : ℕ → Bool
is_line_blank b = b == 32 || b == 9 || b == 13

-- whether a script begins with a section: its first line that has more than blanks and a comment begins with `%`. The definition is about the rest of a script, after bytes
-- that are only blanks, line feeds and comments. `starts` says whether this rest begins at the beginning of a line, and `comment` says whether it begins inside a comment
abbrev pub begins_section_in : Bool → Bool → List ℕ → Bool
begins_section_in starts comment [] = false
begins_section_in starts comment (b ∷ bs) =
    if b == 10 then begins_section_in true false bs
    else (if comment then begins_section_in false true bs
    else (if b == 35 then begins_section_in false true bs
    else (if is_line_blank b then begins_section_in false false bs
    else (starts && b == 37))))

-- the number of bytes of a file's name up to and including its last `/`. `seen` is the number of bytes of the name before these bytes, and `best` is the result for those earlier bytes
abbrev pub folder_length : ℕ → ℕ → List ℕ → ℕ
folder_length seen best [] = best
folder_length seen best (b ∷ bs) = folder_length (seen + 1) (if b == 47 then seen + 1 else best) bs

-- a file's name without its folders: what follows after the last `/`
abbrev pub last_part : List ℕ → List ℕ
last_part name = drop (folder_length 0 0 name) name

-- the operator of a script, given its file's name: the name without its folders, up to the first `.`
abbrev pub operator_of : List ℕ → List ℕ
operator_of name = take (position_or_len (λ b. b == 46) (last_part name)) (last_part name)

-- the line `%operator NAME` with which the section of an operator begins. If `operator` isn't a name, the line is `%operator` alone, and bytes with this line are never a job.
abbrev pub section_head : List ℕ → List ℕ
section_head operator = if is_name operator then codes "%operator " ++ operator ++ codes "\n" else codes "%operator\n"

-- the `%operator` line to put before a script, or nothing if the script begins a section itself
abbrev pub operator_line : List ℕ → List ℕ → List ℕ
operator_line name script = if begins_section_in true false script then [] else section_head (operator_of name)

-- JOINED: the bytes of a job, followed by the script of a file of this name. The script begins on a new line, after a `%operator` line if the script needs one
abbrev pub joined : List ℕ → List ℕ → List ℕ → List ℕ
joined job name script = job ++ line_end job ++ operator_line name script ++ script

-- PART: which lines of a job come from the script in the file `name`. They begin with the line `from`, counted from 1, which is the `%operator`
-- line if such a line is put before the script. `before` is the number of lines of the job before the first line of the file itself.
pub record ScriptSpanData : Type 0 where
  pub name : List ℕ
  pub from : ℕ
  pub before : ℕ

-- the program's `ScriptSpan` as plain data
abbrev pub script_span_data : ScriptSpan → ScriptSpanData
script_span_data p = record { name = p.name.now; from = p.from; before = p.before }

-- the part for a script that is appended to a job
abbrev pub script_span_of : List ℕ → List ℕ → List ℕ → ScriptSpanData
script_span_of job name script = record {
  name = name;
  from = line_feeds (job ++ line_end job) + 1;
  before = line_feeds (job ++ line_end job ++ operator_line name script);
}

-- the result of `joined`, if the bytes of the job and of the script are known; otherwise none
abbrev pub joined_known : Option (List ℕ) → List ℕ → Option (List ℕ) → Option (List ℕ)
joined_known (Some job) name (Some script) = Some (joined job name script)
joined_known job name script = None

-- the part of the script if the bytes of the job and of the script are known, otherwise none
abbrev pub script_span_known : Option (List ℕ) → List ℕ → Option (List ℕ) → List ScriptSpanData
script_span_known (Some job) name (Some script) = script_span_of job name script ∷ []
script_span_known job name script = []

-- the bytes of a job followed by the scripts of these files, in order, if all of these bytes are known; `content` gives the bytes of a file by its name
abbrev pub with_scripts : {Z : Type 0} → (List ℕ → Option (List ℕ)) → Option (List ℕ) → List (String Z) → Option (List ℕ)
with_scripts content job [] = job
with_scripts content job (name ∷ names) = with_scripts content (joined_known job name.bytes.items (content name.bytes.items)) names

-- the part of each of these scripts in the joined job, if the bytes are known
abbrev pub script_spans_of : {Z : Type 0} → (List ℕ → Option (List ℕ)) → Option (List ℕ) → List (String Z) → List ScriptSpanData
script_spans_of content job [] = []
script_spans_of content job (name ∷ names) =
    script_span_known job name.bytes.items (content name.bytes.items) ++ script_spans_of content (joined_known job name.bytes.items (content name.bytes.items)) names
