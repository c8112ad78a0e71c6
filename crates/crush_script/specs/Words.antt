-- The meaning of one word of a command: a pair, or a number of changes.
use Rattle.std.specs.Prelude.{ℕ, ◌+◌, ◌==◌, Bool, not, ◌&&◌, List, length, take, drop, nat_le, Option, Some, None, if◌then◌else◌}
use Rattle.std.specs.List.{list_all, position_or_len}
use Rattle.std.specs.Char.{is_ascii_digit}
use Rattle.std.specs.Str.Parse.{digits_value}
use Rattle.crush_units.specs.Name.{is_name}
use Rattle.crush_units.specs.declared.limits.TheConstants.{MOST_ENTRIES}
use Rattle.crush_edits.specs.declared.location.Pair.{Pair}

-- the index of the first `=` of a word, or the word's length if it has none
abbrev pub equals_at : List ℕ → ℕ
equals_at word = position_or_len (λ b. b == 61) word

-- the two parts of a word `TYPE=NAME`: the bytes before its first `=`, and the bytes after it. If the word has no `=`, the first part is the whole word, and the second part is empty
abbrev pub pair_of : List ℕ → Pair
pair_of word = record { kind = take (equals_at word) word; name = drop (equals_at word + 1) word }

-- whether a word is a pair: both of its parts are names. No name has a `=`, so a pair has exactly one.
abbrev pub is_pair : List ℕ → Bool
is_pair word = is_name (pair_of word).kind && is_name (pair_of word).name

-- whether a word is a number of changes: one or more digits whose value is at most MOST_ENTRIES, which is the maximum number of changes in a history
abbrev pub is_count : List ℕ → Bool
is_count word = not (length word == 0) && list_all is_ascii_digit word && nat_le (digits_value 10 word) MOST_ENTRIES

-- the number of changes that a word spells, or `None` if the word isn't such a number
abbrev pub count_of : List ℕ → Option ℕ
count_of word = if is_count word then Some (digits_value 10 word) else None
