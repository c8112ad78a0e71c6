-- The lines and sentences for worked edits, histories and texts.
use Rattle.std.proofs.Common.{◌≡◌, ℕ, Bool, true, false, List, [], ◌∷◌, ◌++◌, refl}
use Rattle.std.specs.Fmt.{digits}
use Rattle.std.specs.Prelude.{None, Some, codes}
use Rattle.crush_model.specs.Table.{Row}
use Rattle.crush_edits.specs.declared.edit.Edit.TheVariants.{Place, Move, Reweight, Remove, AddBucket, SetClass, Swap}
use Rattle.crush_edits.specs.declared.edit.Placing.TheVariants.{Insert, Update}
use Rattle.crush_edits.specs.declared.location.Pair.{Pair}
use Rattle.crush_edits.specs.declared.refusal.Refusal.TheVariants.{AlreadyPlaced, BadLocation, InUse, Loop, NotEmpty, NoSuchItem, NoSuchType, WrongType}
use Rattle.crush_edits.specs.Setting.{SettingData, take, emit}
use Rattle.crush_units.specs.Words.{split, up_to_long, words_in}
use Rattle.crush_history.specs.declared.call.Call.{Call}
use Rattle.crush_history.specs.declared.call.Call.TheVariants.{One, Batch, Guarded}
use Rattle.crush_history.specs.declared.call.Reply.{Reply}
use Rattle.crush_history.specs.declared.call.Reply.TheVariants.{Done, Dones, Refused, BatchRefused, Stale}
use Rattle.crush_history.specs.History.{EntryData}
use Rattle.crush_history.specs.HistoryText.{line_head, reply_text}
use Rattle.crush_print.specs.MapText.{root_numbers}
use Rattle.crush_print.specs.Tree.{step_at, steps_at, tree_rows, unplaced_numbers}
use Rattle.crush_print.proofs.Examples.{example, setting}
use Rattle.crush_script.specs.declared.fault.JobFault.TheVariants as job
use Rattle.crush_text.specs.declared.expected.Expected.TheVariants.{BucketId, IdOrAlg, Number, Statement, TypeNumber}
use Rattle.crush_text.specs.declared.expected.Optional.TheVariants.{Nothing}
use Rattle.crush_text.specs.declared.fault.TextFaultKind.TheVariants.{Ended, UnknownType}
use Rattle.crush_history.specs.Ceph.{ceph_heading, ceph_line}
use Rattle.crush_ceph.specs.CephText.{ceph_text as ceph_text_of_edits}
use Rattle.crush_ceph.specs.Steps.{ceph_steps}
use Rattle.crush_reasons.specs.Ceph.{ceph_text}
use Rattle.crush_reasons.specs.Explained.{explained_behind, explained_text}
use Rattle.crush_reasons.specs.Fault.{fault_line, fault_text, line_fault_index, line_fault_reason, line_shown, word_place}
use Rattle.crush_edits.specs.Keyword.{keyword_of}
use Rattle.crush_script.specs.Keyword.{form_of}
use Rattle.crush_script.specs.declared.fault.BadLine.TheVariants as bad
use Rattle.crush_script.specs.declared.fault.Due.TheVariants as due
use Rattle.crush_reasons.specs.Named.{edit_reason}
use Rattle.crush_reasons.specs.Near.{is_near}
use Rattle.crush_reasons.specs.Ranges.{range_text, up_to_most}
use Rattle.crush_reasons.specs.Replay.{table_after_edits}
use Rattle.crush_reasons.specs.Way.{items_said}
use Rattle.crush_reasons.specs.Place.{column_line, command_head, from_line, number_line}
use Rattle.crush_reasons.specs.Flaws.{begins_at, not_closed, open_text}
use Rattle.crush_reasons.specs.Misfit.{form_head, form_in_line, is_mistyped, is_weight, misfit_text, with_point}
use Rattle.crush_reasons.specs.Commands.{first_command, is_near_command, meant_text, near_command, no_word}
use Rattle.crush_reasons.specs.Shown.{told}
use Rattle.crush_reasons.specs.Around.{further}
use Rattle.crush_script.specs.Lines.{behind_words}

-- the setting of the plain example map, with a rule that takes the map's root
abbrev ruled : SettingData
ruled = record setting { rules = (record { name = codes "fast"; id = 0; kind = codes "replicated"; min_size = None; max_size = None; steps = take 1 None ∷ emit ∷ [] }) ∷ [] }

-- a pair of a location
abbrev pair : List ℕ → List ℕ → Pair
pair kind name = record { kind = kind; name = name }

-- an entry of the first operator
abbrev entry : Call → Reply → EntryData
entry call reply = record { operator = 0; call = call; reply = reply }

abbrev changed : Bool → ℕ → Reply
changed is made = Done (record { changed = is; made = made })

-- two of these four commands changed the map
two_commands : (s : SettingData) (t : List Row) → ceph_text s t (
    entry (One (Reweight (codes "osd.0") 131072)) (changed true 0)
    ∷ entry (One (Reweight (codes "osd.0") 131072)) (changed false 0)
    ∷ entry (One (Remove (codes "x"))) (Refused NoSuchItem)
    ∷ entry (One (Move (codes "h2") (pair (codes "rack") (codes "r1") ∷ pair (codes "root") (codes "default") ∷ []))) (changed true 1)
    ∷ [])
    ≡ codes "# 2 commands\nceph osd crush reweight osd.0 2.000000\nceph osd crush move h2 rack=r1 root=default\n"
unfolding ceph_text ceph_text_of_edits ceph_heading ceph_steps digits
two_commands s t = refl

-- the first `set` of a device that no bucket holds becomes an `add`, and the second `set` stays a `set`
set_twice : ceph_text setting example (
    entry (One (Place Update 3 (codes "osd.3") 65536 (pair (codes "host") (codes "h1") ∷ []))) (changed true 0)
    ∷ entry (One (Place Update 3 (codes "osd.3") 131072 (pair (codes "host") (codes "h2") ∷ []))) (changed true 0)
    ∷ [])
    ≡ codes "# 2 commands\nceph osd crush add osd.3 1.000000 host=h1\nceph osd crush set osd.3 2.000000 host=h2\n"
unfolding ceph_text ceph_text_of_edits ceph_heading ceph_steps digits
set_twice = refl

-- the lines for an edit of a class and for a swap
class_line : ceph_line (SetClass (codes "osd.0") (codes "ssd")) ≡ codes "ceph osd crush set-device-class ssd osd.0\n"
class_line = refl

swap_line : ceph_line (Swap (codes "h1") (codes "h2")) ≡ codes "ceph osd crush swap-bucket h1 h2 --yes-i-really-mean-it\n"
swap_line = refl

-- a batch that changed the map has a line for each of its edits, and a refused batch has no lines
batches : (s : SettingData) (t : List Row) → ceph_text s t (
    entry (Batch (Reweight (codes "osd.0") 131072 ∷ Remove (codes "osd.1") ∷ [])) (Dones (record { edits = 2; changed = 1; made = 0 }))
    ∷ entry (Batch (Remove (codes "osd.2") ∷ Remove (codes "default") ∷ [])) (BatchRefused 1 NotEmpty)
    ∷ [])
    ≡ codes "# 2 commands\nceph osd crush reweight osd.0 2.000000\nceph osd crush rm osd.1\n"
unfolding ceph_text ceph_text_of_edits ceph_heading ceph_steps digits
batches s t = refl

-- refused entries with their reasons; each reason depends on the table before its entry
explained : explained_text setting example (codes "a" ∷ []) 1 (
    entry (One (Remove (codes "default"))) (Refused NotEmpty)
    ∷ entry (One (Remove (codes "osd.0"))) (changed true 0)
    ∷ entry (Guarded 0 (Remove (codes "x") ∷ [])) (Stale 1)
    ∷ entry (One (Remove (codes "h1"))) (Refused NotEmpty)
    ∷ entry (Batch (Remove (codes "osd.1") ∷ Remove (codes "h1") ∷ Remove (codes "default") ∷ [])) (BatchRefused 2 NotEmpty)
    ∷ [])
    ≡ codes "# 1 a rm default = refused NotEmpty 39\n  default holds 2 items: move or remove them first\n# 3 a begin at 0 ; rm x ; commit = refused Stale 11 changes 1\n  the map has changed in the meantime: look at it again, and write `begin at` with the new number of changes\n# 4 a rm h1 = refused NotEmpty 39\n  h1 holds 1 item: move or remove it first\n# 5 a begin ; rm osd.1 ; rm h1 ; rm default ; commit = refused at 2 NotEmpty 39\n  rm default: default holds 1 item: move or remove it first\n"
unfolding explained_behind line_head reply_text items_said table_after_edits digits
explained = refl

-- names that differ by a missing letter, by an extra letter, by another letter, by two exchanged letters, or in upper and lower case; the number of a device and the name of this device; and names that aren't similar
nearly : (is_near (codes "stor1") (codes "stor01") ≡ true) × (is_near (codes "osd.22") (codes "osd.2") ≡ true) × (is_near (codes "h9") (codes "h1") ≡ true) × (is_near (codes "hots1") (codes "host1") ≡ true) × (is_near (codes "DEFAULT") (codes "default") ≡ true) × (is_near (codes "0") (codes "osd.0") ≡ true)
nearly = (refl, refl, refl, refl, refl, refl)

far : (is_near (codes "h9") (codes "h12") ≡ false) × (is_near (codes "abc") (codes "cab") ≡ false) × (is_near (codes "a") (codes "abc") ≡ false) × (is_near (codes "1") (codes "osd.0") ≡ false) × (is_near (codes "osd.0") (codes "0") ≡ false)
far = (refl, refl, refl, refl, refl)

-- two names are similar, and the reason suggests the first of them in the order of the tree; and a name to which no name is similar
two_near : edit_reason true setting example (Remove (codes "h9")) NoSuchItem ≡ codes "h9 doesn't exist: did you mean h1?"
unfolding tree_rows step_at steps_at root_numbers unplaced_numbers
two_near = refl

none_near : edit_reason true setting example (Remove (codes "rack1")) NoSuchItem ≡ codes "rack1 doesn't exist"
unfolding tree_rows step_at steps_at root_numbers unplaced_numbers
none_near = refl

-- the map isn't searched for a similar name
not_looked : edit_reason false setting example (Remove (codes "h9")) NoSuchItem ≡ codes "h9 doesn't exist"
not_looked = refl

-- a type whose name is similar to the name of a type of the map, by two exchanged letters or by upper case; a type to which no type is similar; and a run that searches for no similar names
exchanged : edit_reason true setting example (Move (codes "h1") (pair (codes "rakc") (codes "r1") ∷ [])) NoSuchType ≡ codes "rakc is not a type of the map: did you mean rack?"
exchanged = refl

upper : edit_reason true setting example (AddBucket (codes "h3") (codes "HOST")) NoSuchType ≡ codes "HOST is not a type of the map: did you mean host?"
upper = refl

no_type : edit_reason true setting example (Move (codes "h1") (pair (codes "shelf") (codes "s1") ∷ [])) NoSuchType ≡ codes "shelf is not a type of the map"
no_type = refl

no_type_looked : edit_reason false setting example (Move (codes "h1") (pair (codes "rakc") (codes "r1") ∷ [])) NoSuchType ≡ codes "rakc is not a type of the map"
no_type_looked = refl

-- reasons that say what the map has at the name for which an edit was refused
taken : edit_reason true ruled example (Remove (codes "default")) InUse ≡ codes "the rule fast takes default"
taken = refl

placed : edit_reason true setting example (Place Insert 0 (codes "osd.0") 65536 (pair (codes "host") (codes "h2") ∷ [])) AlreadyPlaced ≡ codes "osd.0 is already in h1: use set or create-or-move to move it"
placed = refl

below : edit_reason true setting example (Move (codes "default") (pair (codes "host") (codes "h1") ∷ [])) Loop ≡ codes "h1 is below default: a bucket can't be moved below itself"
below = refl

itself : edit_reason true setting example (Move (codes "h1") (pair (codes "host") (codes "h1") ∷ [])) Loop ≡ codes "h1 can't be moved into itself"
itself = refl

other_type : edit_reason true setting example (Move (codes "h1") (pair (codes "rack") (codes "default") ∷ [])) WrongType ≡ codes "default is of type root, not rack"
other_type = refl

twice : edit_reason true setting example (Move (codes "h1") (pair (codes "host") (codes "h2") ∷ pair (codes "host") (codes "h3") ∷ [])) BadLocation
    ≡ codes "host: a location names each type and each bucket at most once, and never the type of devices"
twice = refl

-- a type that isn't declared, which comes after a tab on the second line
unknown_type : fault_text (record { name = []; before = 0 }) (codes "type 0 osd\n\thots h2 {\n}\n") (job.Text (record { kind = UnknownType; place = 12; expected = Statement false Nothing }))
    ≡ codes "  line 2, column 2\n     hots h2 {\n     ^\n  no type named `hots` is declared above\n"
unfolding column_line digits form_of keyword_of told words_in split up_to_long
unknown_type = refl

-- numbers that are out of range, words that aren't numbers, and a place where only 0 is expected
out_of_range : range_text (codes "70000") TypeNumber ≡ codes "number out of range: 0 to 65535"
out_of_range = refl

positive : range_text (codes "2") BucketId ≡ codes "number out of range: -1 to -2147483648"
positive = refl

negative : range_text (codes "-1") (Number 255) ≡ codes "number out of range: 0 to 255"
unfolding up_to_most digits
negative = refl

no_number : range_text (codes "x") TypeNumber ≡ codes "expected a whole number from 0 to 65535"
no_number = refl

sign_alone : range_text (codes "-") TypeNumber ≡ codes "expected a whole number from 0 to 65535"
sign_alone = refl

only_zero : range_text (codes "1") (Number 0) ≡ codes "expected 0"
only_zero = refl

-- a line of a file that isn't a command
no_command : fault_text (record { name = codes "alice.txt"; before = 0 }) (codes "%operator a\nfly x\nrm y\n") (job.NoSuchCommand 2)
    ≡ codes "  alice.txt line 2, column 1\n    fly x\n    ^\n  `fly` is not a command: see --help\n"
unfolding column_line from_line digits behind_words line_shown line_fault_index line_fault_reason word_place no_word near_command first_command meant_text told
no_command = refl

-- a line of the second file of a job, and a line that the program put before the first line of that file
second_file : fault_text (record { name = codes "b.txt"; before = 2 }) (codes "%operator a\n%operator b\nrm x\nfly y\n") (job.NoSuchCommand 4)
    ≡ codes "  b.txt line 2, column 1\n    fly y\n    ^\n  `fly` is not a command: see --help\n"
unfolding column_line from_line digits behind_words line_shown line_fault_index line_fault_reason word_place no_word near_command first_command meant_text told
second_file = refl

line_before : fault_text (record { name = codes "b.txt"; before = 2 }) (codes "%operator a\n%operator a\nrm x\n") (job.DuplicateOperator 2)
    ≡ codes "  b.txt line 0\n    %operator a\n  another operator above has this name: give one of the two files a line %operator NAME\n"
unfolding number_line from_line digits line_shown line_fault_index line_fault_reason
line_before = refl

-- a file whose name has an escape sequence and a tab: a control character is shown as `?`, and a tab as a space
escaped : fault_text (record { name = 27 ∷ codes "[31m" ++ 9 ∷ codes "b.txt"; before = 0 }) (codes "%operator a\nfly y\n") (job.NoSuchCommand 2)
    ≡ codes "  ?[31m b.txt line 2, column 1\n    fly y\n    ^\n  `fly` is not a command: see --help\n"
unfolding column_line from_line digits behind_words line_shown line_fault_index line_fault_reason word_place no_word near_command first_command meant_text told
escaped = refl

escaped_head : command_head (record { name = 27 ∷ codes "[31mb.txt"; before = 2 }) 5 ≡ codes "?[31mb.txt:3: "
unfolding command_head digits
escaped_head = refl

-- the number of the line with a fault of the map's text
third_line : fault_line (codes "a\nb\nc\n") (job.Text (record { kind = UnknownType; place = 4; expected = Statement false Nothing })) ≡ 3
third_line = refl

-- a word that doesn't fit in a command, a word that is missing from a command, and (last in this file) a map's text that is cut
comma : fault_text (record { name = []; before = 0 }) (codes "%operator a\nreweight osd.0 1,5\n") (job.BadLine 2 (bad.Word (record { word = 2; due = due.Weight })))
    ≡ codes "  line 2, column 16\n    reweight osd.0 1,5\n                   ^\n  reweight NAME WEIGHT: `1,5` is not a weight: did you mean 1.5?\n"
unfolding column_line from_line digits form_of keyword_of behind_words line_shown line_fault_index line_fault_reason word_place misfit_text form_head form_in_line told is_weight is_mistyped with_point
comma = refl

missing : fault_text (record { name = []; before = 0 }) (codes "%operator a\nadd-bucket h1\n") (job.BadLine 2 (bad.Word (record { word = 2; due = due.Name })))
    ≡ codes "  line 2\n    add-bucket h1\n  add-bucket NAME TYPE: TYPE is missing\n"
unfolding number_line from_line digits form_of keyword_of behind_words line_shown line_fault_index line_fault_reason misfit_text form_head form_in_line
missing = refl

-- commands that are similar to a word, and one that isn't
near_commands : (is_near_command (codes "rewieght") (codes "reweight") ≡ true) × (is_near_command (codes "reweigt") (codes "reweight") ≡ true) × (is_near_command (codes "rm") (codes "mr") ≡ true) × (is_near_command (codes "rm") (codes "set") ≡ false)
near_commands = (refl, refl, refl, refl)

second_word : near_command (codes "remvoe") ≡ Some (codes "remove")
unfolding near_command first_command
second_word = refl

cut : fault_text (record { name = codes "map.txt"; before = 0 }) (codes "host h1 {\n\tid -2\n%operator a\n") (job.Text (record { kind = Ended; place = 17; expected = IdOrAlg }))
    ≡ codes "  map.txt line 2, column 5\n     id -2\n        ^\n  host h1, which begins at line 1, is not closed\n"
unfolding begins_at column_line digits further not_closed open_text words_in split up_to_long
cut = refl
