-- How lines of a job, and places in a text, are shown. A place is the index of a byte of the text, from 0.
use Rattle.std.specs.Prelude.{ℕ, zero, suc, ◌+◌, ◌-◌, ◌==◌, List, [], ◌∷◌, ◌++◌, codes, decimal, drop, if◌then◌else◌, length, map, min, replicate, reverse, take}
use Rattle.std.specs.List.{position_or_len}
use Rattle.crush_script.specs.Lines.{line_feeds}
use Rattle.crush_reasons.specs.declared.place.Origin.{Origin}
use Rattle.crush_reasons.specs.Shown.{shown_byte}

-- the file from which a line of a job comes: its name, which is empty if messages name no file, and how many lines of the job come before the file's first line
pub record OriginData : Type 0 where
  pub name : List ℕ
  pub before : ℕ

abbrev pub origin_data : Origin → OriginData
origin_data o = record { name = o.name.now; before = o.before }

-- the number that a line of the job has in its file; 0 for a line that the program put before the file's first line
abbrev pub own_line : OriginData → ℕ → ℕ
own_line origin line = line - origin.before

-- the number of the line in which `before`, the beginning of a job, ends. Lines count from 1
abbrev pub last_line : List ℕ → ℕ
last_line before = line_feeds before + 1

-- how many bytes come before the first line feed; the number of all bytes if there is no line feed
abbrev pub to_feed : List ℕ → ℕ
to_feed bytes = position_or_len (λ b. b == 10) bytes

-- how many bytes come after the last line feed; the number of all bytes if there is no line feed
abbrev pub behind_feed : List ℕ → ℕ
behind_feed bytes = to_feed (reverse bytes)

-- the bytes up to the next line feed, as a message shows them: four spaces, at most 72 of these bytes, and a line feed
abbrev pub shown_line : List ℕ → List ℕ
shown_line bytes = codes "    " ++ map shown_byte (take (min (to_feed bytes) 72) bytes) ++ codes "\n"

-- how many bytes of a line are shown before a place, at most 40. `before` has all bytes of the text before this place
abbrev pub shown_before : List ℕ → ℕ
shown_before before = min (behind_feed before) 40

-- the name of a file as it is shown, followed by a space; nothing if there is no name
abbrev pub name_head : List ℕ → List ℕ
name_head name = if length name == 0 then [] else map shown_byte name ++ codes " "

-- the line of a message with the number that a line of the text has in its file, and with the column of a place in this line
unfoldable pub column_line : OriginData → ℕ → ℕ → List ℕ
column_line origin line column = codes "  " ++ name_head origin.name ++ codes "line " ++ decimal (own_line origin line) ++ codes ", column " ++ decimal column ++ codes "\n"

-- the line of a message with the `^` below a place, if the message shows `shown` bytes of the text's line before the place
abbrev pub sign_line : ℕ → List ℕ
sign_line shown = replicate (shown + 4) 32 ++ codes "^\n"

-- A PLACE in a text, as it is shown. Lines and columns count from 1. The text's line is shown from its beginning, or from 40 bytes before the place if more than 40 bytes of the line come before the place. `before` has all bytes of the text before the place
abbrev pub at_place : OriginData → List ℕ → List ℕ → List ℕ
at_place origin bytes before =
    column_line origin (last_line before) (behind_feed before + 1)
    ++ shown_line (drop (length before - shown_before before) bytes)
    ++ sign_line (shown_before before)

abbrev pub place_text : OriginData → List ℕ → ℕ → List ℕ
place_text origin bytes place = at_place origin bytes (take place bytes)

-- the first line of a text, without its line feed
abbrev pub first_line : List ℕ → List ℕ
first_line bytes = take (to_feed bytes) bytes

-- the rest of a text after its first line
abbrev pub behind_line : List ℕ → List ℕ
behind_line bytes = drop 1 (drop (to_feed bytes) bytes)

-- the rest of a text from the line with this number to the end; lines count from 0
unfoldable pub from_line : ℕ → List ℕ → List ℕ
from_line zero bytes = bytes
from_line (suc n) bytes = behind_line (from_line n bytes)

-- the line of a message with the number that a line of the text has in its file
unfoldable pub number_line : OriginData → ℕ → List ℕ
number_line origin line = codes "  " ++ name_head origin.name ++ codes "line " ++ decimal (own_line origin line) ++ codes "\n"

-- the rest of a job from the line with this number to the end; lines count from 1
abbrev pub line_at : List ℕ → ℕ → List ℕ
line_at bytes line = from_line (line - 1) bytes

-- the place of a command, which messages show before the command: `FILE:LINE: `, or `line LINE: ` if no file is named. LINE is the line's number in its file
abbrev pub named_head : List ℕ → ℕ → List ℕ
named_head [] line = codes "line " ++ decimal line ++ codes ": "
named_head (b ∷ name) line = map shown_byte (b ∷ name) ++ codes ":" ++ decimal line ++ codes ": "

unfoldable pub command_head : OriginData → ℕ → List ℕ
command_head origin line = named_head origin.name (own_line origin line)
