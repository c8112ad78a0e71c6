-- The scripts of a job. They are computed line by line, as a fold over the lines of the sections.
use Rattle.std.specs.Prelude.{ℕ, ◌+◌, List, [], ◌∷◌, ◌++◌, Bool, Option, Some, None, Vec, length, map, Result, Ok, Err, if◌then◌else◌, nat_le, bytes_eq}
use Rattle.std.specs.List.{list_any}
use Rattle.crush_edits.specs.declared.edit.Edit.{Edit}
use Rattle.crush_history.specs.declared.call.Call.{Call}
use Rattle.crush_history.specs.declared.call.Call.TheVariants.{One, Batch, Guarded}
use Rattle.crush_script.specs.declared.command.Command.{Command}
use Rattle.crush_script.specs.declared.command.Command.TheVariants as says
use Rattle.crush_script.specs.declared.command.LineFault.{LineFault}
use Rattle.crush_script.specs.declared.command.LineFault.TheVariants as line
use Rattle.crush_script.specs.declared.fault.BadLine.{BadLine}
use Rattle.crush_script.specs.declared.fault.BadLine.TheVariants as bad
use Rattle.crush_script.specs.declared.fault.JobFault.{JobFault}
use Rattle.crush_script.specs.declared.fault.JobFault.TheVariants as job
use Rattle.crush_script.specs.declared.sections.BegunBatch.{BegunBatch}
use Rattle.crush_history.specs.Script.{ScriptData, scripts_data}
use Rattle.crush_script.specs.declared.sections.Sections.{Sections}
use Rattle.crush_text.specs.Flow.{◌>>=◌}
use Rattle.crush_script.specs.Command.{command, operator}
use Rattle.crush_script.specs.Lines.{lines, section_part, section_line, line_words, begins_section}
use Rattle.crush_units.specs.declared.limits.TheConstants.{MOST_CALLS, MOST_EDITS, MOST_OPERATORS}

-- what was read from the lines so far: the scripts, and for each script the numbers of the lines that have its edits. `calls` is the number of calls that were begun in all scripts together. `begun` is the open batch, if there is one: a batch whose `commit` hasn't been read yet. This batch has the number of its `begin` line, the number of changes that this line names (if it names one), and the edits so far.
pub record SectionsData : Type 0 where
  pub scripts : List ScriptData
  pub lines : List (List ℕ)
  pub calls : ℕ
  pub begun : Option BegunBatch

-- the program's lists of line numbers, as plain data
abbrev pub lines_data : {Z : Type 0} → List (Vec ℕ Z) → List (List ℕ)
lines_data lines = map (λ numbers. numbers.items) lines

-- the program's `Sections` as plain data
abbrev pub sections_data : Sections → SectionsData
sections_data s = record { scripts = scripts_data s.scripts.items; lines = lines_data s.lines.items; calls = s.calls; begun = s.begun }

-- before the first line: no scripts, no calls and no open batch
abbrev pub no_sections : SectionsData
no_sections = record { scripts = []; lines = []; calls = 0; begun = None }

-- the fault BadLine: the line with this number isn't allowed at its place, for the reason `why`
abbrev pub bad_line : ℕ → BadLine → JobFault
bad_line number why = job.BadLine number why

-- the fault of a job for a fault of the line with this number. The fault of the job has the number, except if memory ran out
abbrev pub fault_at : ℕ → LineFault → JobFault
fault_at number (line.Word m) = job.BadLine number (bad.Word m)
fault_at number line.NoOperator = job.BadLine number bad.NoOperator
fault_at number line.NoSuchCommand = job.NoSuchCommand number
fault_at number line.OutOfMemory = job.OutOfMemory

-- the result of reading the line with this number, in which a fault of the line becomes a fault of the job
abbrev pub in_line : {X : Type 0} → ℕ → Result X LineFault → Result X JobFault
in_line number (Ok x) = Ok x
in_line number (Err fault) = Err (fault_at number fault)

-- the sections s if there is no open batch. If there is an open batch, the result is the fault OpenBatch with the number of the batch's `begin` line
abbrev pub without_batch : SectionsData → Option BegunBatch → Result SectionsData JobFault
without_batch s None = Ok s
without_batch s (Some b) = Err (job.OpenBatch b.line)

-- the sections s if they have no open batch, otherwise the fault OpenBatch
abbrev pub closed : SectionsData → Result SectionsData JobFault
closed s = without_batch s s.begun

-- whether one of the scripts has an operator with this name
abbrev pub has_operator : List ScriptData → List ℕ → Bool
has_operator scripts name = list_any (λ (s : ScriptData). bytes_eq s.name name) scripts

-- the sections with one more section, which has this name and begins in the line `number`. If there are MOST_OPERATORS sections already, the result is the fault TooManyOperators. Otherwise, if one of the sections has the same name, the result is the fault DuplicateOperator
abbrev pub with_section : ℕ → SectionsData → List ℕ → Result SectionsData JobFault
with_section number s name =
    if nat_le MOST_OPERATORS (length s.scripts) then Err (job.TooManyOperators number)
    else if has_operator s.scripts name then Err (job.DuplicateOperator number)
    else Ok (record s { scripts = s.scripts ++ (record { name = name; calls = [] }) ∷ []; lines = s.lines ++ [] ∷ [] })

-- the sections after one more call was counted, which begins in the line `number`. If MOST_CALLS calls were counted before, the result is the fault TooManyCalls
abbrev pub counted : ℕ → SectionsData → Result SectionsData JobFault
counted number s =
    if nat_le MOST_CALLS s.calls then Err (job.TooManyCalls number)
    else Ok (record s { calls = s.calls + 1 })

-- the scripts after the call c was appended to the last of them
abbrev pub call_in_last : Call → List ScriptData → List ScriptData
call_in_last c [] = []
call_in_last c (s ∷ []) = (record s { calls = s.calls ++ c ∷ [] }) ∷ []
call_in_last c (s ∷ r ∷ rest) = s ∷ call_in_last c (r ∷ rest)

-- the sections after the call c was appended to the last script
abbrev pub with_call : Call → SectionsData → SectionsData
with_call c s = record s { scripts = call_in_last c s.scripts }

-- the lists of numbers after one more number was appended to the last of them
abbrev pub number_in_last : ℕ → List (List ℕ) → List (List ℕ)
number_in_last number [] = []
number_in_last number (l ∷ []) = (l ++ number ∷ []) ∷ []
number_in_last number (l ∷ m ∷ rest) = l ∷ number_in_last number (m ∷ rest)

-- the sections after the number of one more line with an edit was appended for the last script
abbrev pub with_number : ℕ → SectionsData → SectionsData
with_number number s = record s { lines = number_in_last number s.lines }

-- the sections after the edit e of the line `number` was appended to the open batch b. If the batch has MOST_EDITS edits already, the result is the fault BadLine
abbrev pub in_batch : ℕ → SectionsData → BegunBatch → Edit → Result SectionsData JobFault
in_batch number s b e =
    if nat_le MOST_EDITS (length b.edits) then Err (bad_line number bad.BatchFull)
    else Ok (with_number number (record s { begun = Some (record { line = b.line; seen = b.seen; edits = b.edits ++ e ∷ [] }) }))

-- the sections after one more edit, which is in the line `number`. If a batch is open, the edit is appended to this batch. If no batch is open, the edit is a call of its own, and the result is the fault TooManyCalls if there are MOST_CALLS calls already
abbrev pub with_edit : ℕ → SectionsData → Option BegunBatch → Edit → Result SectionsData JobFault
with_edit number s None e = counted number s >>= λ more. Ok (with_number number (with_call (One e) more))
with_edit number s (Some b) e = in_batch number s b e

-- the sections after a line `begin` or `begin at N`. The line opens a batch, which counts as one more call. If a batch is open already, the result is the fault BadLine
abbrev pub with_begin : ℕ → SectionsData → Option BegunBatch → Option ℕ → Result SectionsData JobFault
with_begin number s None seen = counted number s >>= λ more. Ok (record more { begun = Some (record { line = number; seen = seen; edits = [] }) })
with_begin number s (Some b) seen = Err (bad_line number bad.BatchOpen)

-- the call of a batch. The batch is guarded if its `begin` line names a number of changes
abbrev pub batch_call : Option ℕ → List Edit → Call
batch_call None es = Batch es
batch_call (Some seen) es = Guarded seen es

-- the sections after a line `commit`, which appends the open batch to the last script as a call. If no batch is open, the result is the fault BadLine
abbrev pub with_commit : ℕ → SectionsData → Option BegunBatch → Result SectionsData JobFault
with_commit number s None = Err (bad_line number bad.NoBatch)
with_commit number s (Some b) = Ok (with_call (batch_call b.seen b.edits) (record s { begun = None }))

-- the sections after a line that was parsed as this command
abbrev pub with_command : ℕ → SectionsData → Command → Result SectionsData JobFault
with_command number s says.Nothing = Ok s
with_command number s (says.Edit edit) = with_edit number s s.begun edit
with_command number s (says.Begin seen) = with_begin number s s.begun seen
with_command number s says.Commit = with_commit number s s.begun

-- the sections after one more line. A line that begins with `%` begins a section, and no batch may be open before such a line. Each other line is a command, or it has no words.
unfoldable pub with_line : ℕ → SectionsData → List ℕ → Result SectionsData JobFault
with_line number s text =
    if begins_section text then (closed s >>= λ r. in_line number (operator (line_words text)) >>= λ name. with_section number r name)
    else (in_line number (command (line_words text)) >>= λ c. with_command number s c)

-- the sections after all these lines, or the fault of the first faulty line. `number` is the number of the first of these lines. No batch may be open after the last line.
unfoldable pub with_lines : ℕ → SectionsData → List (List ℕ) → Result SectionsData JobFault
with_lines number s [] = closed s
with_lines number s (text ∷ rest) = with_line number s text >>= λ next. with_lines (number + 1) next rest

-- the result of reading all sections of a job: what was read, or the fault of the first faulty line
abbrev pub sections_of : List ℕ → Result SectionsData JobFault
sections_of job = with_lines (section_line job) no_sections (lines (section_part job))

-- for each script, the numbers of the lines that have its edits. If reading the sections failed, there are no lists of numbers
abbrev pub lines_in : Result SectionsData JobFault → List (List ℕ)
lines_in (Ok s) = s.lines
lines_in (Err fault) = []

-- EDIT LINES: for each script of a job, the numbers of the lines that have its edits, in the order of the lines. Lines are numbered from 1, beginning with the first line of the job.
abbrev pub job_lines : List ℕ → List (List ℕ)
job_lines job = lines_in (sections_of job)
