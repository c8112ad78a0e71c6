-- Which words are whole numbers in decimal, and the values of these numbers.
use Rattle.std.specs.Prelude.{ℕ, ℤ, pos, neg_ℤ, Bool, ◌&&◌, ◌==◌, nat_le, nat_lt, List, drop, slice_index, if◌then◌else◌}
use Rattle.std.specs.Str.Parse.{digits_value}
use Rattle.crush_units.specs.Weight.{are_digits}
use Rattle.crush_units.specs.declared.limits.TheConstants.{FARTHEST_BUCKET_ID, FARTHEST_COUNT, LARGEST_COUNT}

-- whether a word consists of 1 to 10 digits, and their value is at most `most`
abbrev pub is_number : ℕ → List ℕ → Bool
is_number most text = are_digits 10 text && nat_le (digits_value 10 text) most

-- whether a word is a bucket's id: `-` and then 1 to 10 digits, with a value from -1 down to -FARTHEST_BUCKET_ID
abbrev pub is_negative : List ℕ → Bool
is_negative text = (slice_index text 0 == 45) && is_number FARTHEST_BUCKET_ID (drop 1 text) && nat_lt 0 (digits_value 10 (drop 1 text))

-- whether a word is a count of items in a rule's step: an optional `-` and 1 to 10 digits, with a value from -FARTHEST_COUNT to LARGEST_COUNT
abbrev pub is_signed : List ℕ → Bool
is_signed text = if slice_index text 0 == 45 then is_number FARTHEST_COUNT (drop 1 text) else is_number LARGEST_COUNT text

-- the value of a word that is a count of items (is_signed), as a signed number
abbrev pub signed_value : List ℕ → ℤ
signed_value text = if slice_index text 0 == 45 then neg_ℤ (pos (digits_value 10 (drop 1 text))) else pos (digits_value 10 text)
