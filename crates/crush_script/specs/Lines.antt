-- The lines of a job, the end of its map's text, and the words of a line of a section.
use Rattle.std.specs.Prelude.{ℕ, zero, suc, ◌+◌, ◌-◌, ◌==◌, Bool, true, false, ◌&&◌, ◌||◌, not, List, [], ◌∷◌, if◌then◌else◌, length, take, drop, filter, count_by, take_while, nat_lt, slice_index}
use Rattle.std.specs.List.{position_or_len, slice_split, onto_first}

-- the lines of some bytes, without their line feeds. The last line may lack its line feed
unfoldable pub lines : List ℕ → List (List ℕ)
lines [] = []
lines (b ∷ bs) = if b == 10 then [] ∷ lines bs else onto_first b (lines bs)

-- the number of bytes before the first line that begins with `%`, or the number of all bytes if there is no such line. `starts` says whether the first byte is the beginning of a line
abbrev pub length_to_section : Bool → List ℕ → ℕ
length_to_section starts [] = 0
length_to_section starts (b ∷ bs) = if starts && b == 37 then 0 else length_to_section (b == 10) bs + 1

-- the map's text of a job: the bytes before the first line that begins with `%`
abbrev pub map_part : List ℕ → List ℕ
map_part job = take (length_to_section true job) job

-- the sections of a job: all bytes from the first line that begins with `%`
abbrev pub section_part : List ℕ → List ℕ
section_part job = drop (length_to_section true job) job

-- the number of line feeds in some bytes
abbrev pub line_feeds : List ℕ → ℕ
line_feeds bytes = count_by (λ b. b == 10) bytes

-- the number of the first line of the sections. Lines are numbered from 1, beginning with the first line of the job
abbrev pub section_line : List ℕ → ℕ
section_line job = line_feeds (map_part job) + 1

-- the line without the carriage return at its end. A line without a carriage return at its end stays the same
abbrev pub without_return : List ℕ → List ℕ
without_return line = if slice_index line (length line - 1) == 13 then take (length line - 1) line else line

-- a line without its comment: the bytes before the first `#`
abbrev pub without_comment : List ℕ → List ℕ
without_comment line = take_while (λ b. not (b == 35)) line

-- whether a byte is a space or a tab. These bytes separate the words of a line
abbrev pub is_space_or_tab : ℕ → Bool
is_space_or_tab b = b == 32 || b == 9

-- the words of a text. A word is a run of bytes that are neither spaces nor tabs. The bytes before and after this run, if there are any, are spaces or tabs
unfoldable pub words_between_blanks : List ℕ → List (List ℕ)
words_between_blanks text = filter (λ (word : List ℕ). nat_lt 0 (length word)) (slice_split is_space_or_tab text)

-- the words of a line. The carriage return at the end of the line and the comment are no part of its words
abbrev pub line_words : List ℕ → List (List ℕ)
line_words line = words_between_blanks (without_comment (without_return line))

-- the rest of a text, beginning with its first word. If the text has no word, this is no bytes
abbrev pub from_blanks : List ℕ → List ℕ
from_blanks text = drop (position_or_len (λ b. not (is_space_or_tab b)) text) text

-- the rest of a text after its first word
abbrev pub behind_word : List ℕ → List ℕ
behind_word text = drop (position_or_len is_space_or_tab (from_blanks text)) (from_blanks text)

-- the rest of a text after its first n words, where n is the first argument
unfoldable pub behind_words : ℕ → List ℕ → List ℕ
behind_words zero text = text
behind_words (suc n) text = behind_word (behind_words n text)

-- the rest of a text, beginning with the word at this index. The index counts from 0. If the text has no such word, this is no bytes
abbrev pub from_word : ℕ → List ℕ → List ℕ
from_word index text = from_blanks (behind_words index text)

-- the first word of a text that begins with a word
abbrev pub first_word : List ℕ → List ℕ
first_word text = take (position_or_len is_space_or_tab text) text

-- PLACED WORD. The argument `index` counts the words of a line from 0. `word_in_line` is the word of the line at this index, or no bytes if the line has no such word. `place_in_line` is the number of bytes of the line before this word. If the line has no such word, it is the number of bytes before the comment or, without a comment, before the end of the line. A carriage return at the end of the line isn't counted
abbrev pub word_in_line : ℕ → List ℕ → List ℕ
word_in_line index line = first_word (from_word index (without_comment (without_return line)))

abbrev pub place_in_line : ℕ → List ℕ → ℕ
place_in_line index line = length (without_comment (without_return line)) - length (from_word index (without_comment (without_return line)))

-- whether a line begins a section: its first byte is `%`
abbrev pub begins_section : List ℕ → Bool
begins_section [] = false
begins_section (b ∷ bs) = b == 37
