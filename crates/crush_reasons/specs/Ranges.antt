-- Which numbers the grammar of a map's text allows, for a word that isn't one of these numbers.
use Rattle.std.specs.Prelude.{ℕ, ◌==◌, Bool, false, not, ◌&&◌, List, [], ◌∷◌, ◌++◌, codes, decimal, if◌then◌else◌, length}
use Rattle.std.specs.Char.{is_ascii_digit}
use Rattle.std.specs.List.{list_all}
use Rattle.crush_text.specs.declared.expected.Expected.{Expected}
use Rattle.crush_text.specs.declared.expected.Expected.TheVariants as expect

-- the range from 0 to `most`
unfoldable pub up_to_most : ℕ → List ℕ
up_to_most most = codes "0 to " ++ decimal most

-- the range of numbers that the grammar allows, if the expectation has no greatest number of its own: the first and the last number of the range. The ids of buckets go down from -1, so the first number of their range is the greatest
abbrev pub range_words : Expected → List ℕ
range_words expect.TypeNumber = codes "0 to 65535"
range_words expect.BucketId = codes "-1 to -2147483648"
range_words expect.Count = codes "-2147483648 to 2147483647"
range_words e = codes "0 to 2147483647"

abbrev pub range_of : Expected → List ℕ
range_of (expect.Number most) = up_to_most most
range_of e = range_words e

-- a word without the `-` with which it begins, if it begins with one
abbrev pub without_minus : List ℕ → List ℕ
without_minus [] = []
without_minus (b ∷ rest) = if b == 45 then rest else b ∷ rest

-- A WHOLE NUMBER: digits, or `-` and digits
abbrev pub is_whole : List ℕ → Bool
is_whole word = not (length (without_minus word) == 0) && list_all is_ascii_digit (without_minus word)

-- THE SENTENCE for a word that isn't a number of the range. If the word is a whole number, the sentence says that the number is out of range. If only 0 is allowed, the sentence only says that 0 is expected
abbrev pub range_head : List ℕ → List ℕ
range_head word = if is_whole word then codes "number out of range: " else codes "expected a whole number from "

abbrev pub is_zero_expected : Expected → Bool
is_zero_expected (expect.Number most) = most == 0
is_zero_expected e = false

abbrev pub range_text : List ℕ → Expected → List ℕ
range_text word e = if is_zero_expected e then codes "expected 0" else range_head word ++ range_of e
