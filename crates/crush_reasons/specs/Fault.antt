-- The place of a fault of a job, and the reason for the fault.
use Rattle.std.specs.Prelude.{ℕ, ◌+◌, ◌-◌, ◌==◌, List, ◌++◌, Option, Some, None, codes, if◌then◌else◌, length, take}
use Rattle.crush_script.specs.declared.fault.JobFault.{JobFault}
use Rattle.crush_script.specs.declared.fault.JobFault.TheVariants.{BadLine, NoSuchCommand, OpenBatch, TooManyOperators, DuplicateOperator, Text, OutOfMemory, TooLong, TooManyCalls}
use Rattle.crush_script.specs.Lines.{place_in_line}
use Rattle.crush_text.specs.declared.fault.TextFault.{TextFault}
use Rattle.crush_reasons.specs.Shown.{reason_line}
use Rattle.crush_reasons.specs.Flaws.{flaw_place, flaw_reason}
use Rattle.crush_reasons.specs.Commands.{no_command}
use Rattle.crush_reasons.specs.Misfit.{line_reason, misfit_index}
use Rattle.crush_reasons.specs.Place.{OriginData, first_line, last_line, line_at, number_line, own_line, place_text, shown_line}
use Rattle.crush_reasons.specs.Sentences.{job_sentence}

-- FAULT LINE: the number of the line of a job that has a fault, or 0 if the fault has no line. Lines count from 1 in the whole job
abbrev pub fault_line : List ℕ → JobFault → ℕ
fault_line bytes (BadLine line why) = line
fault_line bytes (NoSuchCommand line) = line
fault_line bytes (OpenBatch line) = line
fault_line bytes (TooManyOperators line) = line
fault_line bytes (DuplicateOperator line) = line
fault_line bytes (TooManyCalls line) = line
fault_line bytes (Text fault) = last_line (take (flaw_place bytes fault.kind fault.place) bytes)
fault_line bytes TooLong = 0
fault_line bytes OutOfMemory = 0

-- THE REASON for a fault of a line that comes from a file, and not from the program itself; `text` has the bytes of the line
abbrev pub own_reason : JobFault → List ℕ → List ℕ
own_reason (BadLine line why) text = line_reason why text
own_reason (NoSuchCommand line) text = no_command text
own_reason fault text = job_sentence fault

-- the reason for a fault of a line `%operator NAME` that the program put before a script. The program made NAME from the name of the script's file, so the reason says what to write in the file
abbrev pub put_reason : JobFault → List ℕ
put_reason (BadLine line why) = codes "the file's name can't be used as an operator's name: begin the file with a line %operator NAME"
put_reason (DuplicateOperator line) = codes "another operator above has this name: give one of the two files a line %operator NAME"
put_reason fault = job_sentence fault

-- the reason for a fault of any line. `own` is the number of the line in its file, or 0 if the program put the line before a script
unfoldable pub line_fault_reason : ℕ → JobFault → List ℕ → List ℕ
line_fault_reason own fault text = if own == 0 then put_reason fault else own_reason fault text

-- for a line that comes from a file, the index of the word that doesn't fit, from 0; none if the fault isn't about a word of the line
abbrev pub own_index : JobFault → List ℕ → Option ℕ
own_index (BadLine line why) text = misfit_index why text
own_index (NoSuchCommand line) text = Some 0
own_index fault text = None

unfoldable pub line_fault_index : ℕ → JobFault → List ℕ → Option ℕ
line_fault_index own fault text = if own == 0 then None else own_index fault text

-- the place of the word of a line with this index: the index in the job of the word's first byte
unfoldable pub word_place : List ℕ → ℕ → ℕ → ℕ
word_place bytes line index = length bytes - length (line_at bytes line) + place_in_line index (first_line (line_at bytes line))

-- A LINE of a job with its number. If the index of a word is given, also the column of this word and a `^` below its first byte
unfoldable pub line_shown : OriginData → List ℕ → ℕ → Option ℕ → List ℕ
line_shown origin bytes line None = number_line origin line ++ shown_line (line_at bytes line)
line_shown origin bytes line (Some index) = place_text origin bytes (word_place bytes line index)

abbrev pub line_text : OriginData → List ℕ → ℕ → JobFault → List ℕ
line_text origin bytes line fault =
    line_shown origin bytes line (line_fault_index (own_line origin line) fault (first_line (line_at bytes line)))
    ++ reason_line (line_fault_reason (own_line origin line) fault (first_line (line_at bytes line)))

-- the place of a fault of a map's text, as it is printed
abbrev pub flaw_place_text : OriginData → List ℕ → TextFault → List ℕ
flaw_place_text origin bytes fault = place_text origin bytes (flaw_place bytes fault.kind fault.place)

-- the place of a fault of a map's text, followed by the reason for the fault
abbrev pub flaw_text : OriginData → List ℕ → TextFault → List ℕ
flaw_text origin bytes fault = flaw_place_text origin bytes fault ++ reason_line (flaw_reason origin bytes fault.kind fault.place fault.expected)

-- FAULT TEXT: the place of a fault, followed by the reason for the fault; only the reason if the fault has no place
abbrev pub fault_text : OriginData → List ℕ → JobFault → List ℕ
fault_text origin bytes (BadLine line why) = line_text origin bytes line (BadLine line why)
fault_text origin bytes (NoSuchCommand line) = line_text origin bytes line (NoSuchCommand line)
fault_text origin bytes (OpenBatch line) = line_text origin bytes line (OpenBatch line)
fault_text origin bytes (TooManyOperators line) = line_text origin bytes line (TooManyOperators line)
fault_text origin bytes (DuplicateOperator line) = line_text origin bytes line (DuplicateOperator line)
fault_text origin bytes (TooManyCalls line) = line_text origin bytes line (TooManyCalls line)
fault_text origin bytes (Text fault) = flaw_text origin bytes fault
fault_text origin bytes TooLong = reason_line (job_sentence TooLong)
fault_text origin bytes OutOfMemory = reason_line (job_sentence OutOfMemory)
