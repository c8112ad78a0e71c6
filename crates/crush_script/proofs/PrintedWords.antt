-- A line that consists of words with one space between them, and the words that are read from it.
use Rattle.std.proofs.Common.{◌≡◌, ℕ, zero, suc, ◌-◌, ◌<◌, ◌&&◌, ◌||◌, ◌==◌, Bool, true, false, not, cond, List, [], ◌∷◌, ◌++◌, length, take, filter, get_or, refl, sym, ap, ◌∙◌, ltb, arith, rules, tests}
use Rattle.std.specs.List.{list_all, slice_split, prefix_len}
use Rattle.std.proofs.lemmas.Bool.{false≢true}
use Rattle.std.proofs.lemmas.List.{take_all}
use Rattle.std.proofs.lemmas.List.Folds.{list_all-append}
use Rattle.crush_units.specs.Name.{is_name_byte}
use Rattle.crush_script.specs.Lines.{is_space_or_tab, words_between_blanks, without_comment, without_return, line_words}
use Rattle.crush_script.proofs.Cuts.{kept}

-- the bytes that printed words may have, and the bytes that a line of printed words may have
abbrev pub is_word_byte : ℕ → Bool
is_word_byte b = is_name_byte b || b == 61 || b == 37

abbrev pub is_line_byte : ℕ → Bool
is_line_byte b = is_word_byte b || b == 32

pub record IsWord (word : List ℕ) : Type 0 where
  pub some : 0 < length word
  pub bytes : list_all is_word_byte word ≡ true

-- each text in a list is a printed word
abbrev pub AreWords : List (List ℕ) → Type 0
AreWords [] = Unit {0}
AreWords (word ∷ words) = IsWord word × AreWords words

abbrev pub joined : List ℕ → List (List ℕ) → List ℕ
joined word [] = word
joined word (next ∷ words) = word ++ 32 ∷ joined next words

-- a byte that passes a test differs from a number that doesn't
pub never : (p : ℕ → Bool) (b n : ℕ) → p n ≡ false → p b ≡ true → (b == n) ≡ false
never p b n fails passes = at (b == n) refl
  where
    at : (t : Bool) → (b == n) ≡ t → (b == n) ≡ false
    at true e = let same : b ≡ n = search (rules, tests) in absurd (false≢true (sym fails ∙ ap p (sym same) ∙ passes))
    at false e = e

pub both : (a b : Bool) → (a && b) ≡ true → (a ≡ true) × (b ≡ true)
both true b e = (refl, e)
both false b e = absurd (false≢true e)

no_blank : (b : ℕ) → is_word_byte b ≡ true → is_space_or_tab b ≡ false
no_blank b h =
    let space = never is_word_byte b 32 refl h in
    let tab = never is_word_byte b 9 refl h in
    rw (space, tab) refl

-- splitting a line at its blanks gives the first word, and then the words of the rest, if there is a rest
split_word : (word rest : List ℕ) → list_all is_word_byte word ≡ true → slice_split is_space_or_tab (word ++ 32 ∷ rest) ≡ word ∷ slice_split is_space_or_tab rest
split_word [] rest h = refl
split_word (b ∷ bs) rest h =
    let p = both (is_word_byte b) (list_all is_word_byte bs) h in
    let blank = no_blank b p.0 in
    rw (blank, split_word bs rest p.1) refl

split_last : (word : List ℕ) → list_all is_word_byte word ≡ true → slice_split is_space_or_tab word ≡ word ∷ []
split_last [] h = refl
split_last (b ∷ bs) h =
    let p = both (is_word_byte b) (list_all is_word_byte bs) h in
    let blank = no_blank b p.0 in
    rw (blank, split_last bs p.1) refl

abbrev is_some_word : List ℕ → Bool
is_some_word word = ltb 0 (length word)

words-joined : (word : List ℕ) (words : List (List ℕ)) → IsWord word → AreWords words → words_between_blanks (joined word words) ≡ word ∷ words
unfolding words_between_blanks
words-joined word [] is others = ap (filter is_some_word) (split_last word is.bytes) ∙ kept word [] is.some
words-joined word (next ∷ words) is others =
    ap (filter is_some_word) (split_word word (joined next words) is.bytes) ∙ kept word (slice_split is_space_or_tab (joined next words)) is.some
    ∙ ap (λ (r : List (List ℕ)). word ∷ r) (words-joined next words others.0 others.1)

-- the bytes of a line of printed words
line_byte : (b : ℕ) → is_word_byte b ≡ true → is_line_byte b ≡ true
line_byte b h = rw h refl

line_bytes : (bs : List ℕ) → list_all is_word_byte bs ≡ true → list_all is_line_byte bs ≡ true
line_bytes [] h = refl
line_bytes (b ∷ bs) h =
    let p = both (is_word_byte b) (list_all is_word_byte bs) h in
    let first = line_byte b p.0 in
    rw (first, line_bytes bs p.1) refl

pub bytes-joined : (word : List ℕ) (words : List (List ℕ)) → IsWord word → AreWords words → list_all is_line_byte (joined word words) ≡ true
bytes-joined word [] is others = line_bytes word is.bytes
bytes-joined word (next ∷ words) is others =
    list_all-append is_line_byte word (32 ∷ joined next words) ∙ rw (line_bytes word is.bytes, bytes-joined next words others.0 others.1) refl

-- such a line has no comment and no carriage return
abbrev is_text : ℕ → Bool
is_text b = not (b == 35)

prefix-line : (bs : List ℕ) → list_all is_line_byte bs ≡ true → prefix_len is_text bs ≡ length bs
prefix-line [] h = refl
prefix-line (b ∷ bs) h =
    let p = both (is_line_byte b) (list_all is_line_byte bs) h in
    let no_hash = never is_line_byte b 35 refl p.0 in
    rw (no_hash, prefix-line bs p.1) (omega arith)

without_comment-line : (bs : List ℕ) → list_all is_line_byte bs ≡ true → without_comment bs ≡ bs
without_comment-line bs h = take_all (prefix_len is_text bs) bs (omega (arith, prefix-line bs h))

byte_at : (bs : List ℕ) (i : ℕ) → list_all is_line_byte bs ≡ true → (get_or bs i 0 == 13) ≡ false
byte_at [] i h = refl
byte_at (b ∷ bs) zero h = never is_line_byte b 13 refl (both (is_line_byte b) (list_all is_line_byte bs) h).0
byte_at (b ∷ bs) (suc i) h = byte_at bs i (both (is_line_byte b) (list_all is_line_byte bs) h).1

without_return-line : (bs : List ℕ) → list_all is_line_byte bs ≡ true → without_return bs ≡ bs
without_return-line bs h = ap (λ (t : Bool). cond t (take (length bs - 1) bs) bs) (byte_at bs (length bs - 1) h)

pub line_words-joined : (word : List ℕ) (words : List (List ℕ)) → IsWord word → AreWords words → line_words (joined word words) ≡ word ∷ words
line_words-joined word words is others =
    let line : List ℕ = joined word words in
    let h = bytes-joined word words is others in
    ap words_between_blanks (ap without_comment (without_return-line line h) ∙ without_comment-line line h) ∙ words-joined word words is others
