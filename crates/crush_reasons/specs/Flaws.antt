-- What is wrong at a fault of a map's text, and what is expected there. A place is the index of a byte of the text, from 0.
use Rattle.std.specs.Prelude.{ℕ, ◌-◌, ◌==◌, Bool, true, false, ◌&&◌, not, List, [], ◌∷◌, ◌++◌, bytes_eq, codes, decimal, drop, if◌then◌else◌, is_some, length, nat_eq, nat_lt, take}
use Rattle.std.specs.List.{list_all, starts_with}
use Rattle.crush_units.specs.Name.{is_name_byte}
use Rattle.crush_units.specs.Words.{Word, is_blank, words}
use Rattle.crush_text.specs.declared.expected.Expected.{Expected}
use Rattle.crush_text.specs.declared.expected.Expected.TheVariants as expect
use Rattle.crush_text.specs.declared.expected.Optional.{Optional}
use Rattle.crush_text.specs.declared.expected.Optional.TheVariants as optional
use Rattle.crush_text.specs.declared.fault.TextFaultKind.{TextFaultKind}
use Rattle.crush_text.specs.declared.fault.TextFaultKind.TheVariants as text
use Rattle.crush_text.specs.Expected.{keyword_word}
use Rattle.crush_script.specs.Keyword.{form_of}
use Rattle.crush_reasons.specs.declared.around.Around.{Around}
use Rattle.crush_reasons.specs.Around.{around_at, defined_at}
use Rattle.crush_reasons.specs.Place.{OriginData, behind_feed, last_line, own_line}
use Rattle.crush_reasons.specs.Ranges.{range_text}
use Rattle.crush_reasons.specs.Shown.{told}

-- the first of these words, or an empty word if there are none
abbrev pub first_of : List Word → List ℕ
first_of [] = []
first_of (w ∷ ws) = w.text

-- the word that begins at a place
abbrev pub word_at : List ℕ → ℕ → List ℕ
word_at bytes place = first_of (words 0 (drop place bytes)).words

-- the first two of these words, with a space between them. If there are fewer than two words, all of them
abbrev pub two_of : List Word → List ℕ
two_of [] = []
two_of (v ∷ []) = v.text
two_of (v ∷ w ∷ ws) = v.text ++ codes " " ++ w.text

-- the number of the line that has this place, counted in the file of `origin`
abbrev pub line_of : OriginData → List ℕ → ℕ → ℕ
line_of origin bytes place = own_line origin (last_line (take place bytes))

-- THE BUCKET OR RULE that is open at a place, which means that its `{` comes before the place, and its `}` doesn't: its first two words, and the number of the line on which it begins
unfoldable pub begins_at : ℕ → List ℕ
begins_at line = codes ", which begins at line " ++ decimal line

unfoldable pub open_text : OriginData → List ℕ → ℕ → List ℕ
open_text origin bytes head = two_of (words 0 (drop head bytes)).words ++ begins_at (line_of origin bytes head)

-- THE WORDS THAT ARE EXPECTED at the place of a fault, as a phrase. If only one keyword is expected, `expected_words` is empty, and `expected_text` has the keyword in backquotes
abbrev pub statement_words : Bool → Optional → List ℕ
statement_words true or = codes "`rule` or the name of a type; tunables, devices and types must come before the first bucket or rule"
statement_words false optional.Class = codes "`class`, `tunable`, `device`, `type`, `rule` or the name of a type"
statement_words false or = codes "`tunable`, `device`, `type`, `rule` or the name of a type"

abbrev pub item_words : Optional → List ℕ
item_words optional.Hash = codes "`hash`, `item` or `}`"
item_words optional.Weight = codes "`weight`, `item` or `}`"
item_words or = codes "`item` or `}`"

abbrev pub step_words : Optional → List ℕ
step_words optional.Class = codes "`class`, `step` or `}`"
step_words optional.MaxSize = codes "`max_size`, `step` or `}`"
step_words optional.Sizes = codes "`min_size`, `max_size`, `step` or `}`"
step_words or = codes "`step` or `}`"

abbrev pub expected_words : Expected → List ℕ
expected_words (expect.Statement late or) = statement_words late or
expected_words (expect.Keyword k) = []
expected_words (expect.Number most) = codes "a number"
expected_words expect.TunableName = codes "a name"
expected_words expect.TypeNumber = codes "a number"
expected_words expect.TypeName = codes "a name other than tunable, device, type, rule, class and choose_args"
expected_words expect.DeviceId = codes "a number"
expected_words expect.NewName = codes "a name"
expected_words expect.BucketId = codes "a negative id, such as -2"
expected_words expect.Class = codes "a device class"
expected_words expect.IdClass = codes "a device class"
expected_words expect.IdOrAlg = codes "`id` or `alg`"
expected_words expect.Algorithm = codes "`straw2`, `straw` or `list`"
expected_words (expect.Weight device) = codes "a weight, such as 1.5"
expected_words expect.ItemName = codes "the name of a device or a bucket"
expected_words (expect.ItemOrEnd or) = item_words or
expected_words expect.RuleName = codes "a name"
expected_words expect.IdOrRuleset = codes "`id` or `ruleset`"
expected_words expect.RuleId = codes "a number"
expected_words expect.RuleType = codes "a rule type, such as replicated"
expected_words (expect.StepOrEnd or) = step_words or
expected_words expect.StepWord = codes "`take`, `choose`, `chooseleaf`, `emit` or `set_..`"
expected_words expect.TakenBucket = codes "the name of a bucket"
expected_words expect.FirstnOrIndep = codes "`firstn` or `indep`"
expected_words expect.Count = codes "a number"
expected_words expect.StepType = codes "the name of a type"
expected_words expect.Memory = []

abbrev pub expected_text : Expected → List ℕ
expected_text (expect.Keyword k) = told (keyword_word k)
expected_text e = expected_words e

-- the sentence for a number, an id, a name or a class that another line already has
abbrev pub same_id : Expected → List ℕ
same_id expect.TypeNumber = codes "another type has this number"
same_id expect.DeviceId = codes "another device has this id"
same_id expect.RuleId = codes "another rule has this id"
same_id e = codes "another `id` line has this id"

abbrev pub same_name : Expected → List ℕ
same_name expect.TunableName = codes "this tunable is set above"
same_name expect.TypeName = codes "another type has this name"
same_name expect.IdClass = codes "another `id` line of this bucket has this class"
same_name expect.RuleName = codes "another rule has this name"
same_name e = codes "another device or bucket has this name"

-- the sentence for a word that isn't a weight, or is too large a weight. `crushtool -d` prints the 32 bits of a bucket's weight as a signed number, so the number that it prints for a large weight can begin with `-`
abbrev pub begins_with_minus : List ℕ → Bool
begins_with_minus [] = false
begins_with_minus (b ∷ rest) = b == 45

abbrev pub weight_range : Expected → List ℕ
weight_range (expect.Weight true) = codes "expected a weight from 0 to 32767.99998"
weight_range e = codes "expected a weight from 0 to 65535.99998"

abbrev pub bad_weight : List ℕ → Expected → List ℕ
bad_weight word e = if begins_with_minus word then codes "crushtool -d prints a bucket's weight of 32768 and more as a negative number: write 0, and the sum of the bucket's items takes its place" else weight_range e

-- the sentence for A PART OF CEPH'S GRAMMAR that isn't supported
abbrev pub left_out : Expected → List ℕ
left_out expect.StepWord = codes "maps with MSR rules (choosemsr) can't be edited here"
left_out (expect.ItemOrEnd or) = codes "`pos` isn't supported: if the items are already in the order of these numbers, remove each `pos` and its number"
left_out e = codes "maps with weight sets (choose_args) can't be edited here; removing them moves data"

-- the sentence for a statement that is one too many for a map; `word` is the first word of this statement
unfoldable pub most_statements : List ℕ → List ℕ
most_statements word =
    if bytes_eq word (codes "tunable") then codes "a map has at most 64 tunables"
    else if bytes_eq word (codes "device") then codes "a map has at most 65536 devices"
    else if bytes_eq word (codes "type") then codes "a map has at most 256 types"
    else if bytes_eq word (codes "rule") then codes "a map has at most 256 rules"
    else codes "a map has at most 4096 buckets"

abbrev pub too_many : List ℕ → Expected → List ℕ
too_many word expect.IdOrAlg = codes "a bucket has at most 16 class ids"
too_many word (expect.StepOrEnd or) = codes "a rule has at most 64 steps"
too_many word e = most_statements word

-- whether a word that comes right after these bytes is the first word of its line
abbrev pub begins_line : List ℕ → Bool
begins_line before = list_all is_blank (drop (length before - behind_feed before) before)

-- whether the word at this place is the first word of its line, and is a word with which a line of a script may begin
abbrev pub is_command : List ℕ → ℕ → Bool
is_command bytes place = begins_line (take place bytes) && is_some (form_of (word_at bytes place))

-- whether the text declares a device without a class just before the fault, so that the word `class` may follow
abbrev pub can_be_class : Expected → Bool
can_be_class (expect.Statement late optional.Class) = true
can_be_class e = false

-- AN UNKNOWN TYPE: if the word follows a device without a class, on the same line, the reason asks whether `class` was meant
abbrev pub type_hint : List ℕ → ℕ → Expected → List ℕ
type_hint bytes place e = if can_be_class e && not (begins_line (take place bytes)) then codes "; did you mean `class`?" else []

-- the sentence for a word that isn't the name of a type, or names type 0 where a bucket begins. The word may begin a command of a script, or the output of `ceph osd tree`
abbrev pub unknown_type : List ℕ → ℕ → Expected → List ℕ
unknown_type bytes place e =
    if is_command bytes place then codes "this looks like a command: commands go below a line `%operator NAME`"
    else if bytes_eq (word_at bytes place) (codes "ID") then codes "this looks like the output of `ceph osd tree`: a text map is the output of `crushtool -d`"
    else codes "no type named " ++ told (word_at bytes place) ++ codes " is declared above" ++ type_hint bytes place e

-- AN UNKNOWN ITEM OR BUCKET: if a bucket with this name is defined further below in the text, the sentence has the line of this definition
unfoldable pub below_at : ℕ → List ℕ
below_at line = codes " is defined below, at line " ++ decimal line ++ codes ": move that bucket up"

unfoldable pub defined_below : OriginData → List ℕ → List ℕ → ℕ → List ℕ
defined_below origin bytes name at = told name ++ below_at (line_of origin bytes at)

abbrev pub missing : OriginData → List ℕ → ℕ → List ℕ → List ℕ
missing origin bytes place sentence =
    if nat_lt place (defined_at bytes (word_at bytes place)) then defined_below origin bytes (word_at bytes place) (defined_at bytes (word_at bytes place))
    else sentence

-- A FAULT AT THE FIRST BYTE of a text: the text begins with a byte order mark, or with the bytes with which `gzip` begins a file, or isn't the text of a map
abbrev pub not_begun : List ℕ → List ℕ
not_begun bytes =
    if starts_with nat_eq bytes (239 ∷ 187 ∷ 191 ∷ []) then codes "the text begins with a byte order mark: save it without one"
    else if starts_with nat_eq bytes (31 ∷ 139 ∷ []) then codes "this file is compressed with gzip: unpack it first"
    else codes "this is not a text map: use `crushtool -d` to make one"

-- the sentence for a byte that no word may have, or for a word of more than 255 bytes
abbrev pub begins_word : List ℕ → Bool
begins_word [] = false
begins_word (b ∷ rest) = is_name_byte b

abbrev pub bad_word : List ℕ → ℕ → Expected → List ℕ
bad_word bytes place e =
    if place == 0 then not_begun bytes
    else if begins_word (drop place bytes) then codes "a word has at most 255 characters"
    else codes "this character can't be in a word: letters, digits, `-`, `_` and `.` only; expected " ++ expected_text e

-- the sentence for a word in whose place the grammar expects another word. If a bucket or a rule is open there, the sentence also names this bucket or rule
abbrev pub inside : OriginData → List ℕ → Around → List ℕ
inside origin bytes a = if a.is_open then codes " (in " ++ open_text origin bytes a.head ++ codes ")" else []

abbrev pub unexpected : OriginData → List ℕ → Expected → Around → List ℕ
unexpected origin bytes e a = codes "unexpected word: expected " ++ expected_text e ++ inside origin bytes a

abbrev pub no_word : OriginData → List ℕ → ℕ → Expected → List ℕ
no_word origin bytes place e = if place == 0 then not_begun bytes else unexpected origin bytes e (around_at bytes place)

-- the sentence for a text that ends inside a statement, but outside of all buckets and rules
unfoldable pub too_early : Expected → List ℕ
too_early e = codes "the text ends too early: expected " ++ expected_text e

-- the sentence for a text that ends inside a bucket or a rule
unfoldable pub not_closed : OriginData → List ℕ → ℕ → List ℕ
not_closed origin bytes head = open_text origin bytes head ++ codes ", is not closed"

abbrev pub unclosed : OriginData → List ℕ → Expected → Around → List ℕ
unclosed origin bytes e a = if a.is_open then not_closed origin bytes a.head else too_early e

-- the sentence for a fault, if the sentence depends only on the kind of the fault, on what is expected, and on the word at the fault's place
abbrev pub word_sentence : TextFaultKind → List ℕ → Expected → List ℕ
word_sentence text.BadWeight word e = bad_weight word e
word_sentence text.DuplicateId word e = same_id e
word_sentence text.DuplicateName word e = same_name e
word_sentence text.SecondParent word e = codes "this item is already in a bucket; an item can be in only one"
word_sentence text.OtherAlgorithm word e = codes "expected `straw2`, `straw` or `list`; maps with other algorithms can't be edited here, and changing the algorithm moves data"
word_sentence text.LeftOut word e = left_out e
word_sentence text.TooMany word e = too_many word e
word_sentence text.SumTooLarge word e = codes "the total weight is too large: at most 65535.99998 for a bucket and 134217727.99998 for all devices"
word_sentence kind word e = codes "not enough memory for the map"

-- WHAT IS WRONG at a fault of a text, and what is expected there
abbrev pub flaw_reason : OriginData → List ℕ → TextFaultKind → ℕ → Expected → List ℕ
flaw_reason origin bytes text.BadWord place e = bad_word bytes place e
flaw_reason origin bytes text.Ended place e = unclosed origin bytes e (around_at bytes place)
flaw_reason origin bytes text.Unexpected place e = no_word origin bytes place e
flaw_reason origin bytes text.BadNumber place e = range_text (word_at bytes place) e
flaw_reason origin bytes text.UnknownType place e = unknown_type bytes place e
flaw_reason origin bytes text.UnknownItem place e = missing origin bytes place (codes "no device or finished bucket above has this name")
flaw_reason origin bytes text.UnknownBucketInRule place e = missing origin bytes place (codes "no finished bucket above has this name")
flaw_reason origin bytes kind place e = word_sentence kind (word_at bytes place) e

-- the place that messages show for a fault; if the text ends too early, the place of its last word
abbrev pub flaw_place : List ℕ → TextFaultKind → ℕ → ℕ
flaw_place bytes text.Ended place = (around_at bytes place).last
flaw_place bytes kind place = place
