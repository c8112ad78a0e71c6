-- The words of a map's text with their places, and the reason why no word follows the last one. A place is an index of a byte, from 0.
use Rattle.std.specs.Prelude.{◌≢◌, ◌≡◌, ℕ, ◌+◌, Bool, true, false, ◌||◌, List, ◌∷◌, [], length, drop, map, bytes_eq, nat_lt, ◌==◌, if◌then◌else◌}
use Rattle.crush_units.specs.Name.{is_name_byte, is_name}
use Rattle.crush_units.specs.declared.limits.TheConstants.{LONGEST_NAME}

-- a word: the place of its first byte, and its bytes
pub record Word : Type 0 where
  pub place : ℕ
  pub text : List ℕ

-- the reason why no word follows, with a place. `ended`: the text ends at this place. `bad`: the byte at this place is allowed only in comments, or a word of more than 255 bytes begins at this place
pub data Stop : Type 0 where
  ended : ℕ → Stop
  bad : ℕ → Stop

-- the words of a text, or those that are not read yet, and the reason why no word follows the last of them
pub record Text : Type 0 where
  pub words : List Word
  pub stop : Stop

-- whether a byte separates words: a space, a tab, a line feed or a carriage return
abbrev pub is_blank : ℕ → Bool
is_blank b = b == 32 || b == 9 || b == 10 || b == 13

-- whether a byte is `{` or `}`, each of which is a word by itself
abbrev pub is_brace : ℕ → Bool
is_brace b = b == 123 || b == 125

-- the text with each byte of a comment replaced by a space. A comment begins with `#` and ends before the next line feed. The first argument says whether the text begins inside a comment
abbrev pub without_comments : Bool → List ℕ → List ℕ
without_comments inside [] = []
without_comments false (b ∷ bs) = if b == 35 then 32 ∷ without_comments true bs else b ∷ without_comments false bs
without_comments true (b ∷ bs) = if b == 10 then 10 ∷ without_comments false bs else 32 ∷ without_comments true bs

-- a text without words, with the given reason why no word follows
abbrev pub stopped : Stop → Text
stopped stop = record { words = []; stop = stop }

-- a text with one more word put before its words; the word is given by its place and its bytes
abbrev pub first : ℕ → List ℕ → Text → Text
first place text t = record { words = (record { place = place; text = text }) ∷ t.words; stop = t.stop }

-- the words after one byte is added at the front of the first word, which then begins at the given place. If there are no words, the byte becomes a word
abbrev pub onto_words : ℕ → ℕ → List Word → List Word
onto_words place b [] = (record { place = place; text = b ∷ [] }) ∷ []
onto_words place b (w ∷ ws) = (record { place = place; text = b ∷ w.text }) ∷ ws

-- whether there is a first byte, and it is allowed in a name
abbrev pub begins_with_name_byte : List ℕ → Bool
begins_with_name_byte [] = false
begins_with_name_byte (b ∷ bs) = is_name_byte b

-- the words of bytes without comments. The place is the index of the first of these bytes in the text. Blanks separate words, a brace is a word by itself, and a sequence of name bytes of any length is a word. The words end at the end of the bytes, or at the first byte that is neither a blank nor a brace nor a name byte
unfoldable pub split : ℕ → List ℕ → Text
split place [] = stopped (ended place)
split place (b ∷ bs) =
    if is_blank b then split (place + 1) bs
    else (if is_brace b then first place (b ∷ []) (split (place + 1) bs)
    else (if is_name_byte b then (if begins_with_name_byte bs then record { words = onto_words place b (split (place + 1) bs).words; stop = (split (place + 1) bs).stop } else first place (b ∷ []) (split (place + 1) bs))
    else stopped (bad place)))

-- the words before the first word of more than 255 bytes; the reason why no word follows is then `bad`, with the place of that long word. If there is no such word, the result has all words, and the given reason
unfoldable pub up_to_long : List Word → Stop → Text
up_to_long [] stop = stopped stop
up_to_long (w ∷ ws) stop = if nat_lt LONGEST_NAME (length w.text) then stopped (bad w.place) else first w.place w.text (up_to_long ws stop)

-- the words of bytes. The first argument says whether the first byte is inside a comment. The second argument is the index of the first byte in the text
unfoldable pub words_in : Bool → ℕ → List ℕ → Text
words_in inside place bytes = up_to_long (split place (without_comments inside bytes)).words (split place (without_comments inside bytes)).stop

-- the words of bytes whose first byte isn't inside a comment. The place is the index of this byte in the text
abbrev pub words : ℕ → List ℕ → Text
words place bytes = words_in false place bytes

-- the number of bytes, at the start of a text, that are allowed in names
abbrev pub run_length : List ℕ → ℕ
run_length [] = 0
run_length (b ∷ bs) = if is_name_byte b then 1 + run_length bs else 0

-- the text is empty, or its first byte is neither a blank nor `#`, with which a comment begins
abbrev pub IsClear : List ℕ → Type 0
IsClear [] = Unit {0}
IsClear (b ∷ bs) = (is_blank b ≡ false) × (b ≢ 35)

-- whether a word is a brace
abbrev pub is_brace_word : List ℕ → Bool
is_brace_word text = bytes_eq text (123 ∷ []) || bytes_eq text (125 ∷ [])

-- each word is a brace or a name
abbrev pub AreFormed : List Word → Type 0
AreFormed [] = Unit {0}
AreFormed (w ∷ ws) = ((is_brace_word w.text || is_name w.text) ≡ true) × AreFormed ws

-- the bytes of each word, without the places
abbrev pub texts : List Word → List (List ℕ)
texts ws = map (λ (w : Word). w.text) ws

-- whether there is a next word, and it is the key
abbrev pub begins_with_key : List ℕ → List Word → Bool
begins_with_key key [] = false
begins_with_key key (w ∷ ws) = bytes_eq w.text key

-- whether a text has a next word, and it is the key
abbrev pub begins : List ℕ → Text → Bool
begins key t = begins_with_key key t.words

-- the text without its next word
abbrev pub past : Text → Text
past t = record { words = drop 1 t.words; stop = t.stop }
