-- How bytes of a job, of a map or of the command line are shown, without control characters.
use Rattle.std.specs.Prelude.{ℕ, ◌==◌, ◌&&◌, ◌||◌, List, ◌++◌, codes, if◌then◌else◌, length, map, min, nat_lt, take}

-- a byte as it is shown: a byte from 32 to 126 as it is, a tab or a carriage return as a space, and any other byte as `?`
abbrev pub shown_byte : ℕ → ℕ
shown_byte b = if nat_lt 31 b && nat_lt b 127 then b else if b == 9 || b == 13 then 32 else 63

-- a word as it is shown: in backquotes, and only its first 72 bytes
unfoldable pub told : List ℕ → List ℕ
told word = codes "`" ++ map shown_byte (take (min (length word) 72) word) ++ codes "`"

-- a sentence on a line of its own, after two spaces
abbrev pub reason_line : List ℕ → List ℕ
reason_line sentence = codes "  " ++ sentence ++ codes "\n"
