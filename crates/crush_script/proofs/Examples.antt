-- The definitions, computed on worked examples.
use Rattle.std.proofs.Common.{◌≡◌, ℕ, List, [], ◌∷◌, Ok, Err, Some, None, refl}
use Rattle.std.specs.Prelude.{codes}
use Rattle.crush_units.specs.declared.limits.TheConstants.{UNITS_OF_ONE, LAST_DEVICE_ID}
use Rattle.crush_edits.specs.declared.edit.Edit.TheVariants.{Place, Move, Swap, Reweight, ReweightSubtree, Remove, AddBucket, Rename, SetClass, RemoveClass}
use Rattle.crush_edits.specs.declared.edit.Placing.TheVariants.{Insert, CreateOrMove, Update}
use Rattle.crush_history.specs.declared.call.Call.TheVariants.{One, Batch, Guarded}
use Rattle.crush_script.specs.declared.command.Command.TheVariants.{Nothing, Edit, Begin, Commit}
use Rattle.crush_script.specs.declared.command.LineFault.TheVariants as line
use Rattle.crush_script.specs.declared.fault.JobFault.TheVariants as job
use Rattle.crush_script.specs.Lines.{lines, words_between_blanks, line_words, map_part}
use Rattle.crush_history.specs.Said.{device_named}
use Rattle.crush_script.specs.Command.{name_at, weight_at, end_at, with_pair, with_pairs, location_at, placing_at, located_at, one_name_at, two_names_at, name_and_weight_at, edit_at, count_at, begin_at, command, misfit, operator}
use Rattle.crush_edits.specs.Keyword.{keyword_of}
use Rattle.crush_script.specs.declared.fault.Due.TheVariants as due
use Rattle.crush_script.specs.declared.fault.BadLine.TheVariants as bad
use Rattle.crush_script.specs.Sections.{with_line, with_lines, sections_of}

-- a comment inside a word, blanks of both kinds, a carriage return
words_of_a_line : line_words (codes " reweight\tosd.2  1.0#c\r") ≡ codes "reweight" ∷ (codes "osd.2" ∷ (codes "1.0" ∷ []))
unfolding words_between_blanks
words_of_a_line = refl

-- a second carriage return is part of the word
return_in_a_word : line_words (codes "x\r\r") ≡ (codes "x\r" ∷ [])
unfolding words_between_blanks
return_in_a_word = refl

-- the id of a device's name is plain: no leading zero, and at most LAST_DEVICE_ID
plain_id : device_named (codes "osd.10") ≡ Some 10
plain_id = refl

zero_id : device_named (codes "osd.0") ≡ Some 0
zero_id = refl

last_id : device_named (codes "osd.2147483647") ≡ Some LAST_DEVICE_ID
last_id = refl

late_id : device_named (codes "osd.2147483648") ≡ None
late_id = refl

leading_zero : device_named (codes "osd.01") ≡ None
leading_zero = refl

no_digits : device_named (codes "osd.") ≡ None
no_digits = refl

-- one line for each command
one_weight : command (codes "reweight" ∷ (codes "osd.2" ∷ (codes "1.0" ∷ []))) ≡ Ok (Edit (Reweight (codes "osd.2") UNITS_OF_ONE))
unfolding name_at weight_at end_at with_pair with_pairs location_at placing_at located_at one_name_at two_names_at name_and_weight_at keyword_of edit_at count_at begin_at command
one_weight = refl

one_device : command (codes "add" ∷ (codes "osd.3" ∷ (codes "0.333" ∷ (codes "host=h3" ∷ (codes "rack=r1" ∷ []))))) ≡ Ok (Edit (Place Insert 3 (codes "osd.3") 21823 ((record { kind = codes "host"; name = codes "h3" }) ∷ ((record { kind = codes "rack"; name = codes "r1" }) ∷ []))))
unfolding name_at weight_at end_at with_pair with_pairs location_at placing_at located_at one_name_at two_names_at name_and_weight_at keyword_of edit_at count_at begin_at command
one_device = refl

one_update : command (codes "set" ∷ (codes "osd.1" ∷ (codes "3" ∷ (codes "host=h1" ∷ [])))) ≡ Ok (Edit (Place Update 1 (codes "osd.1") 196608 ((record { kind = codes "host"; name = codes "h1" }) ∷ [])))
unfolding name_at weight_at end_at with_pair with_pairs location_at placing_at located_at one_name_at two_names_at name_and_weight_at keyword_of edit_at count_at begin_at command
one_update = refl

one_choice : command (codes "create-or-move" ∷ (codes "osd.0" ∷ (codes "5.0" ∷ (codes "host=h2" ∷ [])))) ≡ Ok (Edit (Place CreateOrMove 0 (codes "osd.0") 327680 ((record { kind = codes "host"; name = codes "h2" }) ∷ [])))
unfolding name_at weight_at end_at with_pair with_pairs location_at placing_at located_at one_name_at two_names_at name_and_weight_at keyword_of edit_at count_at begin_at command
one_choice = refl

-- a command without pairs can be read; later, the edit is refused because its location is empty
no_location : command (codes "add" ∷ (codes "osd.3" ∷ (codes "1" ∷ []))) ≡ Ok (Edit (Place Insert 3 (codes "osd.3") UNITS_OF_ONE []))
unfolding name_at weight_at end_at with_pair with_pairs location_at placing_at located_at one_name_at two_names_at name_and_weight_at keyword_of edit_at count_at begin_at command
no_location = refl

one_move : command (codes "move" ∷ (codes "h1" ∷ (codes "root=default" ∷ []))) ≡ Ok (Edit (Move (codes "h1") ((record { kind = codes "root"; name = codes "default" }) ∷ [])))
unfolding name_at weight_at end_at with_pair with_pairs location_at placing_at located_at one_name_at two_names_at name_and_weight_at keyword_of edit_at count_at begin_at command
one_move = refl

one_swap : command (codes "swap-bucket" ∷ (codes "h1" ∷ (codes "h2" ∷ []))) ≡ Ok (Edit (Swap (codes "h1") (codes "h2")))
unfolding name_at weight_at end_at with_pair with_pairs location_at placing_at located_at one_name_at two_names_at name_and_weight_at keyword_of edit_at count_at begin_at command
one_swap = refl

one_subtree : command (codes "reweight-subtree" ∷ (codes "h1" ∷ (codes "0.25" ∷ []))) ≡ Ok (Edit (ReweightSubtree (codes "h1") 16384))
unfolding name_at weight_at end_at with_pair with_pairs location_at placing_at located_at one_name_at two_names_at name_and_weight_at keyword_of edit_at count_at begin_at command
one_subtree = refl

one_rm : command (codes "rm" ∷ (codes "osd.0" ∷ [])) ≡ Ok (Edit (Remove (codes "osd.0")))
unfolding name_at weight_at end_at with_pair with_pairs location_at placing_at located_at one_name_at two_names_at name_and_weight_at keyword_of edit_at count_at begin_at command
one_rm = refl

one_remove : command (codes "remove" ∷ (codes "osd.0" ∷ [])) ≡ Ok (Edit (Remove (codes "osd.0")))
unfolding name_at weight_at end_at with_pair with_pairs location_at placing_at located_at one_name_at two_names_at name_and_weight_at keyword_of edit_at count_at begin_at command
one_remove = refl

one_bucket : command (codes "add-bucket" ∷ (codes "h9" ∷ (codes "host" ∷ []))) ≡ Ok (Edit (AddBucket (codes "h9") (codes "host")))
unfolding name_at weight_at end_at with_pair with_pairs location_at placing_at located_at one_name_at two_names_at name_and_weight_at keyword_of edit_at count_at begin_at command
one_bucket = refl

one_name : command (codes "rename-bucket" ∷ (codes "h1" ∷ (codes "hq" ∷ []))) ≡ Ok (Edit (Rename (codes "h1") (codes "hq")))
unfolding name_at weight_at end_at with_pair with_pairs location_at placing_at located_at one_name_at two_names_at name_and_weight_at keyword_of edit_at count_at begin_at command
one_name = refl

one_class : command (codes "set-device-class" ∷ (codes "ssd" ∷ (codes "osd.0" ∷ []))) ≡ Ok (Edit (SetClass (codes "osd.0") (codes "ssd")))
unfolding name_at weight_at end_at with_pair with_pairs location_at placing_at located_at one_name_at two_names_at name_and_weight_at keyword_of edit_at count_at begin_at command
one_class = refl

no_class : command (codes "rm-device-class" ∷ (codes "osd.0" ∷ [])) ≡ Ok (Edit (RemoveClass (codes "osd.0")))
unfolding name_at weight_at end_at with_pair with_pairs location_at placing_at located_at one_name_at two_names_at name_and_weight_at keyword_of edit_at count_at begin_at command
no_class = refl

a_begin : command (codes "begin" ∷ []) ≡ Ok (Begin None)
unfolding name_at weight_at end_at with_pair with_pairs location_at placing_at located_at one_name_at two_names_at name_and_weight_at keyword_of edit_at count_at begin_at command
a_begin = refl

a_commit : command (codes "commit" ∷ []) ≡ Ok Commit
unfolding name_at weight_at end_at with_pair with_pairs location_at placing_at located_at one_name_at two_names_at name_and_weight_at keyword_of edit_at count_at begin_at command
a_commit = refl

-- lines that don't have the form of their command
begin_with_more : command (codes "begin" ∷ (codes "x" ∷ [])) ≡ Err (misfit 1 due.At)
unfolding name_at weight_at end_at with_pair with_pairs location_at placing_at located_at one_name_at two_names_at name_and_weight_at keyword_of edit_at count_at begin_at command
begin_with_more = refl

no_device : command (codes "add" ∷ (codes "h1" ∷ (codes "1" ∷ (codes "host=h1" ∷ [])))) ≡ Err (misfit 1 due.Device)
unfolding name_at weight_at end_at with_pair with_pairs location_at placing_at located_at one_name_at two_names_at name_and_weight_at keyword_of edit_at count_at begin_at command
no_device = refl

two_equals : command (codes "move" ∷ (codes "h1" ∷ (codes "a=b=c" ∷ []))) ≡ Err (misfit 2 due.Pair)
unfolding name_at weight_at end_at with_pair with_pairs location_at placing_at located_at one_name_at two_names_at name_and_weight_at keyword_of edit_at count_at begin_at command
two_equals = refl

no_type : command (codes "move" ∷ (codes "h1" ∷ (codes "=b" ∷ []))) ≡ Err (misfit 2 due.Pair)
unfolding name_at weight_at end_at with_pair with_pairs location_at placing_at located_at one_name_at two_names_at name_and_weight_at keyword_of edit_at count_at begin_at command
no_type = refl

no_bucket : command (codes "move" ∷ (codes "h1" ∷ (codes "a=" ∷ []))) ≡ Err (misfit 2 due.Pair)
unfolding name_at weight_at end_at with_pair with_pairs location_at placing_at located_at one_name_at two_names_at name_and_weight_at keyword_of edit_at count_at begin_at command
no_bucket = refl

no_pair : command (codes "move" ∷ (codes "h1" ∷ (codes "host" ∷ []))) ≡ Err (misfit 2 due.Pair)
unfolding name_at weight_at end_at with_pair with_pairs location_at placing_at located_at one_name_at two_names_at name_and_weight_at keyword_of edit_at count_at begin_at command
no_pair = refl

third_name : command (codes "swap-bucket" ∷ (codes "a" ∷ (codes "b" ∷ (codes "c" ∷ [])))) ≡ Err (misfit 3 due.End)
unfolding name_at weight_at end_at with_pair with_pairs location_at placing_at located_at one_name_at two_names_at name_and_weight_at keyword_of edit_at count_at begin_at command
third_name = refl

-- the first word that doesn't fit, or that is missing
no_second_name : command (codes "add-bucket" ∷ (codes "h1" ∷ [])) ≡ Err (misfit 2 due.Name)
unfolding name_at weight_at end_at with_pair with_pairs location_at placing_at located_at one_name_at two_names_at name_and_weight_at keyword_of edit_at count_at begin_at command
no_second_name = refl

comma_in_a_weight : command (codes "add" ∷ (codes "osd.1" ∷ (codes "1,5" ∷ (codes "host" ∷ [])))) ≡ Err (misfit 2 due.Weight)
unfolding name_at weight_at end_at with_pair with_pairs location_at placing_at located_at one_name_at two_names_at name_and_weight_at keyword_of edit_at count_at begin_at command
comma_in_a_weight = refl

second_pair : command (codes "add" ∷ (codes "osd.1" ∷ (codes "1" ∷ (codes "host=h1" ∷ (codes "rack" ∷ []))))) ≡ Err (misfit 4 due.Pair)
unfolding name_at weight_at end_at with_pair with_pairs location_at placing_at located_at one_name_at two_names_at name_and_weight_at keyword_of edit_at count_at begin_at command
second_pair = refl

late_commit : command (codes "commit" ∷ (codes "x" ∷ [])) ≡ Err (misfit 1 due.End)
unfolding name_at weight_at end_at with_pair with_pairs location_at placing_at located_at one_name_at two_names_at name_and_weight_at keyword_of edit_at count_at begin_at command
late_commit = refl

other_section : operator (codes "%operato" ∷ (codes "x" ∷ [])) ≡ Err line.NoOperator
unfolding name_at end_at one_name_at operator
other_section = refl

two_operators : operator (codes "%operator" ∷ (codes "a" ∷ (codes "b" ∷ []))) ≡ Err (misfit 2 due.End)
unfolding name_at end_at one_name_at operator
two_operators = refl

-- a number with 19 digits after the point isn't a weight
nineteen_digits : command (codes "reweight" ∷ (codes "osd.0" ∷ (codes "0.0000000000000000001" ∷ []))) ≡ Err (misfit 2 due.Weight)
unfolding name_at weight_at end_at with_pair with_pairs location_at placing_at located_at one_name_at two_names_at name_and_weight_at keyword_of edit_at count_at begin_at command
nineteen_digits = refl

no_command : command (codes "fly" ∷ (codes "x" ∷ [])) ≡ Err line.NoSuchCommand
unfolding name_at weight_at end_at with_pair with_pairs location_at placing_at located_at one_name_at two_names_at name_and_weight_at keyword_of edit_at count_at begin_at command
no_command = refl

no_words : command [] ≡ Ok Nothing
unfolding command
no_words = refl

-- sixteen pairs are read, and seventeen are not
sixteen_pairs : located_at (codes "h" ∷ (codes "t0=b" ∷ (codes "t1=b" ∷ (codes "t2=b" ∷ (codes "t3=b" ∷ (codes "t4=b" ∷ (codes "t5=b" ∷ (codes "t6=b" ∷ (codes "t7=b" ∷ (codes "t8=b" ∷ (codes "t9=b" ∷ (codes "t10=b" ∷ (codes "t11=b" ∷ (codes "t12=b" ∷ (codes "t13=b" ∷ (codes "t14=b" ∷ (codes "t15=b" ∷ []))))))))))))))))) ≡ Ok (codes "h", (record { kind = codes "t0"; name = codes "b" }) ∷ ((record { kind = codes "t1"; name = codes "b" }) ∷ ((record { kind = codes "t2"; name = codes "b" }) ∷ ((record { kind = codes "t3"; name = codes "b" }) ∷ ((record { kind = codes "t4"; name = codes "b" }) ∷ ((record { kind = codes "t5"; name = codes "b" }) ∷ ((record { kind = codes "t6"; name = codes "b" }) ∷ ((record { kind = codes "t7"; name = codes "b" }) ∷ ((record { kind = codes "t8"; name = codes "b" }) ∷ ((record { kind = codes "t9"; name = codes "b" }) ∷ ((record { kind = codes "t10"; name = codes "b" }) ∷ ((record { kind = codes "t11"; name = codes "b" }) ∷ ((record { kind = codes "t12"; name = codes "b" }) ∷ ((record { kind = codes "t13"; name = codes "b" }) ∷ ((record { kind = codes "t14"; name = codes "b" }) ∷ ((record { kind = codes "t15"; name = codes "b" }) ∷ []))))))))))))))))
unfolding name_at with_pair with_pairs location_at located_at
sixteen_pairs = refl

seventeen_pairs : located_at (codes "h" ∷ (codes "t0=b" ∷ (codes "t1=b" ∷ (codes "t2=b" ∷ (codes "t3=b" ∷ (codes "t4=b" ∷ (codes "t5=b" ∷ (codes "t6=b" ∷ (codes "t7=b" ∷ (codes "t8=b" ∷ (codes "t9=b" ∷ (codes "t10=b" ∷ (codes "t11=b" ∷ (codes "t12=b" ∷ (codes "t13=b" ∷ (codes "t14=b" ∷ (codes "t15=b" ∷ (codes "t16=b" ∷ [])))))))))))))))))) ≡ Err (misfit 18 due.NoMorePairs)
unfolding name_at with_pair with_pairs location_at located_at
seventeen_pairs = refl

-- a job whose third line isn't a command
abbrev pub flying : List ℕ
flying = codes "type 1 host\n%operator a\nfly x"

flying_map : map_part flying ≡ codes "type 1 host\n"
flying_map = refl

flying_fault : sections_of (flying) ≡ Err (job.NoSuchCommand 3)
unfolding lines words_between_blanks name_at weight_at end_at with_pair with_pairs location_at placing_at located_at one_name_at two_names_at name_and_weight_at keyword_of edit_at count_at begin_at command operator with_line with_lines
flying_fault = refl

-- two sections with the same name; and a batch that is still open where a section begins, at the end of the job, and at a faulty line
same_operator : sections_of (codes "%operator a\n\n%operator a") ≡ Err (job.DuplicateOperator 3)
unfolding lines words_between_blanks name_at weight_at end_at with_pair with_pairs location_at placing_at located_at one_name_at two_names_at name_and_weight_at keyword_of edit_at count_at begin_at command operator with_line with_lines
same_operator = refl

open_at_section : sections_of (codes "%operator a\nbegin\nrm x\n%x") ≡ Err (job.OpenBatch 2)
unfolding lines words_between_blanks name_at weight_at end_at with_pair with_pairs location_at placing_at located_at one_name_at two_names_at name_and_weight_at keyword_of edit_at count_at begin_at command operator with_line with_lines
open_at_section = refl

open_at_end : sections_of (codes "%operator a\nrm x\nbegin") ≡ Err (job.OpenBatch 3)
unfolding lines words_between_blanks name_at weight_at end_at with_pair with_pairs location_at placing_at located_at one_name_at two_names_at name_and_weight_at keyword_of edit_at count_at begin_at command operator with_line with_lines
open_at_end = refl

fault_in_batch : sections_of (codes "%operator a\nbegin\nrm\n") ≡ Err (job.BadLine 3 (bad.Word (record { word = 1; due = due.Name })))
unfolding lines words_between_blanks name_at weight_at end_at with_pair with_pairs location_at placing_at located_at one_name_at two_names_at name_and_weight_at keyword_of edit_at count_at begin_at command operator with_line with_lines
fault_in_batch = refl

begin_in_batch : sections_of (codes "%operator a\nbegin\nbegin\n") ≡ Err (job.BadLine 3 bad.BatchOpen)
unfolding lines words_between_blanks name_at weight_at end_at with_pair with_pairs location_at placing_at located_at one_name_at two_names_at name_and_weight_at keyword_of edit_at count_at begin_at command operator with_line with_lines
begin_in_batch = refl

commit_outside : sections_of (codes "%operator a\ncommit\n") ≡ Err (job.BadLine 2 bad.NoBatch)
unfolding lines words_between_blanks name_at weight_at end_at with_pair with_pairs location_at placing_at located_at one_name_at two_names_at name_and_weight_at keyword_of edit_at count_at begin_at command operator with_line with_lines
commit_outside = refl

one_call : sections_of (codes "%operator a # x\r\nreweight osd.0 0.015625") ≡ Ok (record { scripts = (record { name = codes "a"; calls = One (Reweight (codes "osd.0") 1024) ∷ [] }) ∷ []; lines = (2 ∷ []) ∷ []; calls = 1; begun = None })
unfolding lines words_between_blanks name_at weight_at end_at with_pair with_pairs location_at placing_at located_at one_name_at two_names_at name_and_weight_at keyword_of edit_at count_at begin_at command operator with_line with_lines
one_call = refl

-- two operators, a batch and a call
two_scripts : sections_of (codes "%operator a\nbegin\nrm x\n\nrm y\ncommit\nrm z\n%operator b\nbegin\ncommit")
    ≡ Ok (record { scripts = (record { name = codes "a"; calls = Batch (Remove (codes "x") ∷ (Remove (codes "y") ∷ [])) ∷ (One (Remove (codes "z")) ∷ []) }) ∷ ((record { name = codes "b"; calls = Batch [] ∷ [] }) ∷ []); lines = (3 ∷ (5 ∷ (7 ∷ []))) ∷ ([] ∷ []); calls = 3; begun = None })
unfolding lines words_between_blanks name_at weight_at end_at with_pair with_pairs location_at placing_at located_at one_name_at two_names_at name_and_weight_at keyword_of edit_at count_at begin_at command operator with_line with_lines
two_scripts = refl

-- a batch that names a number of changes: any number of digits, with a value up to MOST_ENTRIES, and nothing else
a_guard : command (codes "begin" ∷ (codes "at" ∷ (codes "3" ∷ []))) ≡ Ok (Begin (Some 3))
unfolding end_at count_at begin_at command
a_guard = refl

long_guard : command (codes "begin" ∷ (codes "at" ∷ (codes "000000000065536" ∷ []))) ≡ Ok (Begin (Some 65536))
unfolding end_at count_at begin_at command
long_guard = refl

late_guard : command (codes "begin" ∷ (codes "at" ∷ (codes "65537" ∷ []))) ≡ Err (misfit 2 due.Changes)
unfolding end_at count_at begin_at command
late_guard = refl

signed_guard : command (codes "begin" ∷ (codes "at" ∷ (codes "+3" ∷ []))) ≡ Err (misfit 2 due.Changes)
unfolding end_at count_at begin_at command
signed_guard = refl

short_guard : command (codes "begin" ∷ (codes "at" ∷ [])) ≡ Err (misfit 2 due.Changes)
unfolding end_at count_at begin_at command
short_guard = refl

other_guard : command (codes "begin" ∷ (codes "3" ∷ [])) ≡ Err (misfit 1 due.At)
unfolding end_at count_at begin_at command
other_guard = refl

more_guard : command (codes "begin" ∷ (codes "at" ∷ (codes "3" ∷ (codes "x" ∷ [])))) ≡ Err (misfit 3 due.End)
unfolding end_at count_at begin_at command
more_guard = refl

guarded_script : sections_of (codes "%operator a\nbegin at 0\nrm x\ncommit\n")
    ≡ Ok (record { scripts = (record { name = codes "a"; calls = Guarded 0 (Remove (codes "x") ∷ []) ∷ [] }) ∷ []; lines = (3 ∷ []) ∷ []; calls = 1; begun = None })
unfolding lines words_between_blanks name_at weight_at end_at with_pair with_pairs location_at placing_at located_at one_name_at two_names_at name_and_weight_at keyword_of edit_at count_at begin_at command operator with_line with_lines
guarded_script = refl
