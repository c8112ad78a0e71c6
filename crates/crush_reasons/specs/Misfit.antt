-- The reason why a line of a script isn't allowed at its place: the form of the line and the first word that doesn't fit, or another reason.
use Rattle.std.specs.Prelude.{ℕ, ◌-◌, ◌==◌, Bool, true, false, not, ◌&&◌, ◌||◌, List, ◌++◌, Option, Some, None, Result, Ok, Err, bytes_eq, codes, decimal, drop, if◌then◌else◌, length, nat_le, nat_lt, slice_index, take}
use Rattle.std.specs.Char.{is_ascii_alphabetic, is_ascii_digit}
use Rattle.std.specs.List.{list_all, position_or_len}
use Rattle.std.specs.Option.{option_map_or}
use Rattle.std.specs.Str.Parse.{digits_value}
use Rattle.crush_units.specs.Name.{is_name}
use Rattle.crush_units.specs.Weight.{are_digits, weight_of_text}
use Rattle.crush_units.specs.declared.weight.WeightFault.{WeightFault}
use Rattle.crush_units.specs.declared.weight.WeightFault.TheVariants.{Syntax, TooLarge}
use Rattle.crush_units.specs.declared.limits.TheConstants.{LAST_DEVICE_ID}
use Rattle.crush_units.specs.Numbers.{is_number}
use Rattle.crush_script.specs.declared.fault.BadLine.{BadLine}
use Rattle.crush_script.specs.declared.fault.BadLine.TheVariants as bad
use Rattle.crush_script.specs.declared.fault.Due.{Due}
use Rattle.crush_script.specs.declared.fault.Due.TheVariants as due
use Rattle.crush_script.specs.declared.fault.Misfit.{Misfit}
use Rattle.crush_script.specs.Keyword.{form_of, form_text}
use Rattle.crush_script.specs.Lines.{word_in_line}
use Rattle.crush_reasons.specs.Shown.{told}

-- whether a byte is a quotation mark
abbrev pub is_quote : ℕ → Bool
is_quote b = b == 34 || b == 39

-- whether a word begins and ends with a quotation mark
abbrev pub is_quoted : List ℕ → Bool
is_quoted word = nat_lt 1 (length word) && (is_quote (slice_index word 0) && is_quote (slice_index word (length word - 1)))

-- a word without its first and its last byte if both are quotation marks, and otherwise the whole word
abbrev pub bare : List ℕ → List ℕ
bare word = if is_quoted word then take (length word - 2) (drop 1 word) else word

-- A WORD THAT ISN'T A NAME: if the word without quotation marks at its ends is a name, the reason suggests this name
abbrev pub name_meant : List ℕ → List ℕ
name_meant meant = if is_name meant then codes " is not a name: did you mean " ++ meant ++ codes "?" else codes " is not a name: use letters, digits, `-`, `_` and `.`, at most 255"

abbrev pub no_name : List ℕ → List ℕ
no_name word = told word ++ name_meant (bare word)

-- A WORD THAT ISN'T A DEVICE: if the word is the number of a device, or `osd.` and such a number, the reason suggests this device. The word may also have quotation marks at its ends
abbrev pub digits_of : List ℕ → List ℕ
digits_of word = if nat_le 4 (length word) && bytes_eq (take 4 word) (codes "osd.") then drop 4 word else word

abbrev pub number_meant : Option ℕ → List ℕ
number_meant None = codes "write osd.N with N from 0 to 2147483647"
number_meant (Some number) = codes "did you mean osd." ++ decimal number ++ codes "?"

abbrev pub device_meant : List ℕ → List ℕ
device_meant digits = number_meant (if is_number LAST_DEVICE_ID digits then Some (digits_value 10 digits) else None)

abbrev pub no_device : List ℕ → List ℕ
no_device word = told word ++ codes " is not a device: " ++ device_meant (digits_of (bare word))

-- A WORD THAT ISN'T A WEIGHT. The first two definitions say whether a text is read as a weight
abbrev pub is_read : Result ℕ WeightFault → Bool
is_read (Ok units) = true
is_read (Err fault) = false

unfoldable pub is_weight : List ℕ → Bool
is_weight word = is_read (weight_of_text word)

-- whether a byte is a comma or a point
abbrev pub is_separator : ℕ → Bool
is_separator b = b == 44 || b == 46

-- the index of the first comma or point of a word, and the parts of the word before and after this byte. If the word has neither, the index is the word's length
abbrev pub point_at : List ℕ → ℕ
point_at word = position_or_len is_separator word

abbrev pub whole_of : List ℕ → List ℕ
whole_of word = take (point_at word) word

abbrev pub parts_of : List ℕ → List ℕ
parts_of word = drop 1 (drop (point_at word) word)

-- whether a word has three parts, one directly after the other: 0 to 10 digits, then a comma or a point, and then 1 to 18 digits. If such a word isn't a weight, it can have a comma in place of the point, or no digit before the point
unfoldable pub is_mistyped : List ℕ → Bool
is_mistyped word = (length (whole_of word) == 0 || are_digits 10 (whole_of word)) && are_digits 18 (parts_of word)

-- the suggestion to write such a word with a point, and with `0` before the point if there is no digit
abbrev pub front_of : List ℕ → List ℕ
front_of whole = if length whole == 0 then codes "0" else whole

unfoldable pub with_point : List ℕ → List ℕ
with_point word = codes "did you mean " ++ (front_of (whole_of word) ++ (codes "." ++ (parts_of word ++ codes "?")))

-- whether a byte is a digit or a point
abbrev pub is_of_number : ℕ → Bool
is_of_number b = is_ascii_digit b || b == 46

abbrev pub unit_at : List ℕ → ℕ
unit_at word = position_or_len (λ b. not (is_of_number b)) word

-- whether a word is a weight followed by letters, such as `4T` or `3.6TiB`
unfoldable pub has_unit : List ℕ → Bool
has_unit word = nat_lt (unit_at word) (length word) && (is_weight (take (unit_at word) word) && list_all is_ascii_alphabetic (drop (unit_at word) word))

-- what the reason suggests for a word that is neither a weight nor too large a number. `word` is this word without quotation marks at its ends
abbrev pub weight_meant : List ℕ → List ℕ
weight_meant word =
    if is_weight word then codes "did you mean " ++ word ++ codes "?"
    else if is_mistyped word then with_point word
    else if has_unit word then codes "weights are in TiB, without a unit: a disk sold as 4 TB weighs 3.63869"
    else codes "write a number such as 1.5"

-- whether a word was not read as a weight because the weight is too large
abbrev pub is_fault_large : Result ℕ WeightFault → Bool
is_fault_large (Ok units) = false
is_fault_large (Err Syntax) = false
is_fault_large (Err TooLarge) = true

-- whether a word is too large a number for a weight, for example a number of bytes. A word of more than 10 digits always counts as too large
abbrev pub is_large : List ℕ → Bool
is_large word = is_fault_large (weight_of_text word) || (nat_lt 10 (length word) && list_all is_ascii_digit word)

abbrev pub mistyped : List ℕ → List ℕ
mistyped word = codes " is not a weight: " ++ weight_meant (bare word)

abbrev pub weight_said : List ℕ → List ℕ
weight_said word = if is_large word then codes " is too large: weights are in TiB, at most 65535.99998" else mistyped word

abbrev pub no_weight : List ℕ → List ℕ
no_weight word = told word ++ weight_said word

-- THE REASON for a word that isn't what the form of the line requires in its place
abbrev pub wrong_text : Due → List ℕ → List ℕ
wrong_text due.Device word = no_device word
wrong_text due.Weight word = no_weight word
wrong_text due.Name word = no_name word
wrong_text due.Pair word = told word ++ codes " is not a pair: write TYPE=NAME without spaces"
wrong_text due.NoMorePairs word = codes "too many pairs: at most 16"
wrong_text due.At word = codes "unexpected word " ++ told word ++ codes ": expected `at N` or the end of the line"
wrong_text due.Changes word = told word ++ codes " is not a number of changes: expected 0 to 65536"
wrong_text due.End word = codes "unexpected extra word " ++ told word

-- THE MISFIT of a line is the first place at which the words of the line don't fit its form. The reason says that the line has no word there, or that the word there isn't what the form requires. `form` is the form, and `word` is the word of the line at this place, or empty if the line is too short
unfoldable pub misfit_text : Misfit → List ℕ → List ℕ → List ℕ
misfit_text m form word = if length word == 0 then word_in_line m.word form ++ codes " is missing" else wrong_text m.due word

-- the form of a line, followed by `: `, which a message prints before the reason; nothing if the line has no form
unfoldable pub form_head : List ℕ → List ℕ
form_head form = if length form == 0 then form else form ++ codes ": "

-- the form of a line, such as `reweight NAME WEIGHT`; empty if no line of a script may begin with the line's first word
unfoldable pub form_in_line : List ℕ → List ℕ
form_in_line line = option_map_or form_text (form_of (word_in_line 0 line)) (codes "")

abbrev pub word_reason : Misfit → List ℕ → List ℕ
word_reason m line = form_head (form_in_line line) ++ misfit_text m (form_in_line line) (word_in_line m.word line)

-- THE REASON why a line isn't allowed at its place
abbrev pub line_reason : BadLine → List ℕ → List ℕ
line_reason (bad.Word m) line = word_reason m line
line_reason bad.NoOperator line = codes "a line that begins with % must be `%operator NAME`"
line_reason bad.BatchOpen line = codes "a batch is already open: end it with `commit`"
line_reason bad.NoBatch line = codes "no batch is open: start one with `begin`"
line_reason bad.BatchFull line = codes "a batch has at most 65536 edits"

-- THE INDEX of the word that doesn't fit, from 0; none if the line is too short to have this word, or if the reason isn't about a word
abbrev pub index_in_line : ℕ → List ℕ → Option ℕ
index_in_line index line = if length (word_in_line index line) == 0 then None else Some index

abbrev pub misfit_index : BadLine → List ℕ → Option ℕ
misfit_index (bad.Word m) line = index_in_line m.word line
misfit_index why line = None
