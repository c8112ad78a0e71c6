-- Which faults of a job say that memory ran out, and how messages name what a line requires.
use Rattle.std.specs.Prelude.{ℕ, List, Bool, true, false, codes}
use Rattle.crush_text.specs.declared.fault.TextFaultKind.{TextFaultKind}
use Rattle.crush_text.specs.declared.fault.TextFaultKind.TheVariants as kinds
use Rattle.crush_script.specs.declared.fault.Due.{Due}
use Rattle.crush_script.specs.declared.fault.Due.TheVariants.{Device, Weight, Name, Pair, NoMorePairs, At, Changes, End}
use Rattle.crush_script.specs.declared.fault.JobFault.{JobFault}
use Rattle.crush_script.specs.declared.fault.JobFault.TheVariants.{Text, OutOfMemory}

-- whether a fault of a text says that memory ran out. A fault of any other kind is a flaw of the text
abbrev pub is_out_of_memory : TextFaultKind → Bool
is_out_of_memory kinds.OutOfMemory = true
is_out_of_memory kind = false

-- whether a fault of a job says that memory ran out, for the scripts or for the map's text
abbrev pub lacks_memory : JobFault → Bool
lacks_memory OutOfMemory = true
lacks_memory (Text fault) = is_out_of_memory fault.kind
lacks_memory fault = false

-- how a message names what the form of a line requires at a word
abbrev pub due_text : Due → List ℕ
due_text Device = codes "the name of a device, osd.N"
due_text Weight = codes "a weight"
due_text Name = codes "a name"
due_text Pair = codes "a pair TYPE=NAME or the end of the line"
due_text NoMorePairs = codes "the end of the line, because a location has at most 16 pairs"
due_text At = codes "`at` or the end of the line"
due_text Changes = codes "a number from 0 to 65536"
due_text End = codes "the end of the line"
