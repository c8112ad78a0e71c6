-- What a run writes to standard error, and its status.
use Rattle.std.specs.Prelude.{ℕ, ◌==◌, Bool, List, [], ◌++◌, Result, Ok, Err, codes, decimal, if◌then◌else◌, map}
use Rattle.crush_text.specs.declared.fault.TextFault.{TextFault}
use Rattle.crush_text.specs.Fault.{fault_name}
use Rattle.crush_script.specs.declared.fault.JobFault.{JobFault}
use Rattle.crush_script.specs.declared.fault.JobFault.TheVariants.{BadLine, NoSuchCommand, OpenBatch, TooManyOperators, DuplicateOperator, Text, OutOfMemory, TooLong, TooManyCalls}
use Rattle.crush_script.specs.Fault.{is_out_of_memory, lacks_memory}
use Rattle.crush_reasons.specs.Shown.{shown_byte}
use Rattle.crush_input.specs.declared.fault.RunFault.{RunFault}
use Rattle.crush_input.specs.declared.fault.RunFault.TheVariants as run
use Rattle.crush_input.specs.declared.fault.SecondMapFault.{SecondMapFault}
use Rattle.crush_input.specs.declared.fault.SecondMapFault.TheVariants as unread
use Rattle.crush_input.specs.declared.fault.SecondMap.{SecondMap}
use Rattle.crush_input.specs.declared.fault.SecondMap.TheVariants as second
use Rattle.crush_input.specs.declared.summary.Summary.{Summary}
use Rattle.crush_input.specs.Words.{WordsData}

-- the line that says that memory ran out
abbrev pub out_of_memory : List ℕ
out_of_memory = codes "crushedit: out of memory\n"

-- the line with the number of bucket weights in the map's text that were replaced by sums
abbrev pub adjusted_line : ℕ → List ℕ
adjusted_line adjusted = codes "crushedit: adjusted " ++ decimal adjusted ++ codes "\n"

-- the line for a fault of a job's line: the line's number and the fault's name
abbrev pub line_fault : ℕ → List ℕ → List ℕ
line_fault number name = codes "crushedit: line " ++ decimal number ++ codes ": " ++ name ++ codes "\n"

-- the line for a fault of the map's text: its place and its name
abbrev pub text_fault : TextFault → List ℕ
text_fault f = codes "crushedit: byte " ++ decimal f.place ++ codes ": " ++ fault_name f.kind ++ codes "\n"

-- the line for a fault of the job
abbrev pub job_fault : JobFault → List ℕ
job_fault (BadLine number why) = line_fault number (codes "BadLine")
job_fault (NoSuchCommand number) = line_fault number (codes "NoSuchCommand")
job_fault (OpenBatch number) = line_fault number (codes "OpenBatch")
job_fault (TooManyOperators number) = line_fault number (codes "TooManyOperators")
job_fault (DuplicateOperator number) = line_fault number (codes "DuplicateOperator")
job_fault (TooManyCalls number) = line_fault number (codes "TooManyCalls")
job_fault (Text f) = text_fault f
job_fault TooLong = codes "crushedit: TooLong\n"
job_fault OutOfMemory = out_of_memory

-- the line with the number of refused calls that ended a strict run
abbrev pub refused_line : ℕ → List ℕ
refused_line count = codes "crushedit: refused " ++ decimal count ++ codes "\n"

-- the line with the number of calls that created more buckets than they have `add-bucket` commands, which ended a run with `--no-make`
abbrev pub made_line : ℕ → List ℕ
made_line count = codes "crushedit: made " ++ decimal count ++ codes "\n"

-- the line with the number of items that have a lost change. If lost changes ended the run, it is the first line on standard error. If refused calls or created buckets ended the run, and there are lost changes, it is in the notes
abbrev pub conflicts_line : ℕ → List ℕ
conflicts_line count = codes "crushedit: conflicts " ++ decimal count ++ codes "\n"

-- the line with the number of differences that remain after a plan, which ended a strict run
abbrev pub differs_line : ℕ → List ℕ
differs_line count = codes "crushedit: differs " ++ decimal count ++ codes "\n"

-- the word in the line for a fault of the second map: the option that names the map
abbrev pub map_word : SecondMap → List ℕ
map_word second.Since = codes "since"
map_word second.To = codes "to"

-- the line for a fault of the second map's text: the option, the fault's place and its name
abbrev pub second_map_text_fault : SecondMap → TextFault → List ℕ
second_map_text_fault which f = codes "crushedit: " ++ map_word which ++ codes ": byte " ++ decimal f.place ++ codes ": " ++ fault_name f.kind ++ codes "\n"

-- the line for a fault of the second map
abbrev pub second_map_fault : SecondMap → SecondMapFault → List ℕ
second_map_fault which (unread.Text f) = if is_out_of_memory f.kind then out_of_memory else second_map_text_fault which f
second_map_fault which unread.TooLong = codes "crushedit: " ++ map_word which ++ codes ": TooLong\n"
second_map_fault which unread.Read = codes "crushedit: " ++ map_word which ++ codes ": read fault\n"

-- the line for an item, a type or a class that the map doesn't have. The line has the name from the command line, in which each byte has the form that `shown_byte` gives
abbrev pub lacking_line : List ℕ → List ℕ → List ℕ
lacking_line what name = codes "crushedit: no " ++ what ++ map shown_byte name ++ codes "\n"

-- the line for a run that failed
abbrev pub run_fault : WordsData → RunFault → List ℕ
run_fault w (run.Job f) = if lacks_memory f then out_of_memory else job_fault f
run_fault w run.Read = codes "crushedit: read fault\n"
run_fault w run.Write = codes "crushedit: write fault\n"
run_fault w run.Memory = out_of_memory
run_fault w run.Thread = codes "crushedit: no thread\n"
run_fault w (run.Refused count) = refused_line count
run_fault w (run.Made count) = made_line count
run_fault w (run.Conflicts count) = conflicts_line count
run_fault w (run.Differs count) = differs_line count
run_fault w run.NoItem = lacking_line (codes "item ") w.under
run_fault w run.NoType = lacking_line (codes "type ") w.down_to
run_fault w run.NoClass = lacking_line (codes "class ") w.class
run_fault w (run.SecondMap which f) = second_map_fault which f

-- the first line, for the result of a run; nothing if the run succeeded and no weight was replaced
abbrev pub report_line : WordsData → Result Summary RunFault → List ℕ
report_line w (Ok s) = if s.adjusted == 0 then [] else adjusted_line s.adjusted
report_line w (Err f) = run_fault w f

-- the reason that memory ran out
abbrev pub memory_reason : List ℕ
memory_reason = codes "  not enough memory for the job\n"

-- the reason if the file of the second map is too long
abbrev pub long_reason : SecondMap → List ℕ
long_reason second.Since = codes "  the file of --since has at most 16777216 bytes\n"
long_reason second.To = codes "  the file of --to has at most 16777216 bytes\n"

-- the reason if the file of the second map can't be opened or read
abbrev pub unread_reason : SecondMap → List ℕ
unread_reason second.Since = codes "  the file of --since can't be opened or can't be read to its end\n"
unread_reason second.To = codes "  the file of --to can't be opened or can't be read to its end\n"

-- the reason for a fault of the second map. There is none for a flaw of the map's text, because the notes have the reason for a flaw
abbrev pub second_map_reason : SecondMap → SecondMapFault → List ℕ
second_map_reason which (unread.Text f) = if is_out_of_memory f.kind then memory_reason else []
second_map_reason which unread.TooLong = long_reason which
second_map_reason which unread.Read = unread_reason which

-- the reason why a run failed; nothing if the notes of the run have it
abbrev pub fault_reason : RunFault → List ℕ
fault_reason (run.Job f) = if lacks_memory f then memory_reason else []
fault_reason run.Read = codes "  a file, or standard input, can't be opened or can't be read to its end\n"
fault_reason run.Write = codes "  the output couldn't be written or stored completely: don't use it\n"
fault_reason run.Memory = memory_reason
fault_reason run.Thread = codes "  the system couldn't start a thread for an operator: try --in-turn\n"
fault_reason (run.Refused count) = []
fault_reason (run.Made count) = []
fault_reason (run.Conflicts count) = []
fault_reason (run.Differs count) = []
fault_reason run.NoItem = codes "  --under needs the name of an item that the map has after the scripts\n"
fault_reason run.NoType = codes "  --down-to needs the name of a type of the map\n"
fault_reason run.NoClass = codes "  --class needs a class that at least one device has\n"
fault_reason (run.SecondMap which f) = second_map_reason which f

-- the reason for the result of a run; nothing if the run succeeded
abbrev pub outcome_reason : Result Summary RunFault → List ℕ
outcome_reason (Ok s) = []
outcome_reason (Err f) = fault_reason f

-- the first line, and the reason after it if `--explain` is given
abbrev pub report_lines : WordsData → Result Summary RunFault → List ℕ
report_lines w outcome = report_line w outcome ++ (if w.explain then outcome_reason outcome else [])

-- the whole text of standard error: the lines above, followed by the notes of the run
abbrev pub report_text : WordsData → Result Summary RunFault → List ℕ → List ℕ
report_text w outcome notes = report_lines w outcome ++ notes

-- the status for a fault of the second map
abbrev pub second_map_status : SecondMapFault → ℕ
second_map_status (unread.Text f) = if is_out_of_memory f.kind then 4 else 1
second_map_status unread.TooLong = 1
second_map_status unread.Read = 3

-- the status for a run that failed
abbrev pub fault_status : RunFault → ℕ
fault_status (run.Job f) = if lacks_memory f then 4 else 1
fault_status run.Read = 3
fault_status run.Write = 3
fault_status run.Memory = 4
fault_status run.Thread = 4
fault_status (run.Refused count) = 5
fault_status (run.Made count) = 5
fault_status (run.Conflicts count) = 5
fault_status (run.Differs count) = 5
fault_status run.NoItem = 1
fault_status run.NoType = 1
fault_status run.NoClass = 1
fault_status (run.SecondMap which f) = second_map_status f

-- STATUS: 0 if the run succeeded, or 6 if it succeeded and its summary says that there is something to report. If the run failed, the status is:
-- 1 if the bytes aren't a job, the second map isn't a map, or the map lacks a name of the command line;
-- 3 if reading or writing failed;
-- 4 if memory ran out, or a thread couldn't be started;
-- 5 if calls of a strict run were refused, if differences remain after the plan of a strict run, if calls created buckets in spite of `--no-make`, or if changes were lost.
abbrev pub status : Result Summary RunFault → ℕ
status (Ok s) = if s.differs then 6 else 0
status (Err f) = fault_status f
