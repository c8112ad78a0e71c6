-- Cuts the first line off a text, and the first word off a line.
use Rattle.std.proofs.Common.{◌≡◌, ℕ, suc, ◌+◌, ◌-◌, ◌<◌, ◌==◌, Bool, true, false, not, ◌&&◌, cond, List, [], ◌∷◌, length, take, drop, filter, refl, ap, sym, ◌∙◌, subst, arith, rules, tests, ltb, length-drop}
use Rattle.std.proofs.lemmas.List.{drop-drop, take_all, nil_from_length}
use Rattle.std.specs.List.{position_or_len, slice_split, onto_first}
use Rattle.crush_script.specs.Lines.{lines, words_between_blanks, is_space_or_tab, length_to_section, section_part, begins_section, behind_word, behind_words}
use Rattle.std.proofs.lemmas.Bool.{false≢true}

-- the index of the first line feed
abbrev pub feed : List ℕ → ℕ
feed text = position_or_len (λ b. b == 10) text

one_more : {X : Type 0} (x : X) (xs : List X) (n : ℕ) → take (1 + n) (x ∷ xs) ≡ x ∷ take n xs
one_more x xs n = let e : 1 + n ≡ suc n = omega arith in rw e

one_less : {X : Type 0} (x : X) (xs : List X) (n : ℕ) → drop (1 + n) (x ∷ xs) ≡ drop n xs
one_less x xs n = let e : 1 + n ≡ suc n = omega arith in rw e

-- the first line and the other lines, after one more byte is put before the text
cut_more : (b : ℕ) (bs : List ℕ) (ends : Bool) → (0 < length bs → lines bs ≡ take (feed bs) bs ∷ lines (drop (feed bs + 1) bs)) → cond ends ([] ∷ lines bs) (onto_first b (lines bs)) ≡ take (cond (not ends) (1 + feed bs) 0) (b ∷ bs) ∷ lines (drop (cond (not ends) (1 + feed bs) 0 + 1) (b ∷ bs))
unfolding lines
cut_more b bs true below = refl
cut_more b [] false below = refl
cut_more b (c ∷ cs) false below =
    let n : ℕ = feed (c ∷ cs) in
    let e : 1 + n + 1 ≡ suc (n + 1) = omega arith in
    let f : 1 + n ≡ suc n = omega arith in
    rw (below (omega arith), e, f)

-- the lines of a text are its first line, and then the lines after the line feed
pub lines-cut : (text : List ℕ) → 0 < length text → lines text ≡ take (feed text) text ∷ lines (drop (feed text + 1) text)
unfolding lines
lines-cut [] some = absurd (omega arith)
lines-cut (b ∷ bs) some = cut_more b bs (b == 10) (lines-cut bs)

-- the index of the first byte that isn't a blank, and the index of the first blank
abbrev pub word_place : List ℕ → ℕ
word_place text = position_or_len (λ b. not (is_space_or_tab b)) text

abbrev pub blank_place : List ℕ → ℕ
blank_place text = position_or_len is_space_or_tab text

-- the first byte isn't a blank
abbrev pub BeginsWord : List ℕ → Type 0
BeginsWord [] = Unit {0}
BeginsWord (b ∷ bs) = is_space_or_tab b ≡ false

abbrev is_some_word : List ℕ → Bool
is_some_word word = ltb 0 (length word)

-- the words, after one more byte is put before the text
skip_more : (b : ℕ) (bs : List ℕ) (blank : Bool) → is_space_or_tab b ≡ blank → (words_between_blanks bs ≡ words_between_blanks (drop (word_place bs) bs)) × BeginsWord (drop (word_place bs) bs) → (words_between_blanks (b ∷ bs) ≡ words_between_blanks (drop (cond (not (not blank)) (1 + word_place bs) 0) (b ∷ bs))) × BeginsWord (drop (cond (not (not blank)) (1 + word_place bs) 0) (b ∷ bs))
unfolding words_between_blanks
skip_more b bs true is below = rw (one_less b bs (word_place bs)) (rw is below.0, below.1)
skip_more b bs false is below = (refl, is)

-- blanks before the first word don't change the words
pub words-skip : (text : List ℕ) → (words_between_blanks text ≡ words_between_blanks (drop (word_place text) text)) × BeginsWord (drop (word_place text) text)
words-skip [] = (refl, tt)
words-skip (b ∷ bs) = skip_more b bs (is_space_or_tab b) refl (words-skip bs)

-- the bytes up to the first blank, and the parts after it
record Split (text : List ℕ) : Type 0 where
  parts : List (List ℕ)
  split : slice_split is_space_or_tab text ≡ take (blank_place text) text ∷ parts
  words : filter is_some_word parts ≡ words_between_blanks (drop (blank_place text) text)

split_more : (b : ℕ) (bs : List ℕ) (blank : Bool) → is_space_or_tab b ≡ blank → Split bs → Split (b ∷ bs)
unfolding words_between_blanks
split_more b bs true is below = record {
  parts = slice_split is_space_or_tab bs;
  split = rw is refl;
  words = rw (is, is) refl;
}
split_more b bs false is below = record {
  parts = below.parts;
  split = rw (is, one_more b bs (blank_place bs), below.split) refl;
  words = rw (is, one_less b bs (blank_place bs)) below.words;
}

split_of : (text : List ℕ) → Split text
unfolding words_between_blanks
split_of [] = record { parts = []; split = refl; words = refl }
split_of (b ∷ bs) = split_more b bs (is_space_or_tab b) refl (split_of bs)

-- a word that isn't empty is kept
pub kept : (word : List ℕ) (parts : List (List ℕ)) → 0 < length word → filter is_some_word (word ∷ parts) ≡ word ∷ filter is_some_word parts
kept word parts some = let e : ltb 0 (length word) ≡ true = search (rules, tests) in rw e

-- the words of a text that begins with a word are this word, and then the words after it
pub words-cut : (text : List ℕ) → 0 < length text → BeginsWord text → words_between_blanks text ≡ take (blank_place text) text ∷ words_between_blanks (drop (blank_place text) text)
unfolding words_between_blanks
words-cut [] some begins = absurd (omega arith)
words-cut (b ∷ bs) some begins =
    let s : Split (b ∷ bs) = split_of (b ∷ bs) in
    let word : List ℕ = take (blank_place (b ∷ bs)) (b ∷ bs) in
    let long : 0 < length word = rw (begins, one_more b bs (blank_place bs)) (omega arith) in
    ap (filter is_some_word) s.split ∙ kept word s.parts long ∙ ap (λ (r : List (List ℕ)). word ∷ r) s.words

-- if nothing is left after a first line without a line feed, this line is the only one
pub behind_last : (text rest : List ℕ) → 0 < length text → rest ≡ drop (feed text) text → length rest < 1 → lines text ≡ take (feed text) text ∷ lines rest
behind_last text rest some is none =
    let e : drop (feed text + 1) text ≡ drop 1 (drop (feed text) text) = sym (drop-drop 1 (feed text) text) in
    let n : rest ≡ [] = nil_from_length rest (omega arith) in
    lines-cut text some ∙ ap (λ (r : List ℕ). take (feed text) text ∷ lines r) (e ∙ ap (drop 1) (sym is ∙ n) ∙ sym n)

-- after the first line and its line feed, the other lines are left
pub behind_feed : (text rest : List ℕ) → 0 < length text → rest ≡ drop (feed text) text → lines text ≡ take (feed text) text ∷ lines (take (length rest - 1) (drop 1 rest))
behind_feed text rest some is =
    let e : drop (feed text + 1) text ≡ drop 1 (drop (feed text) text) = sym (drop-drop 1 (feed text) text) in
    let all : take (length rest - 1) (drop 1 rest) ≡ drop 1 rest = take_all (length rest - 1) (drop 1 rest) (omega (arith, length-drop 1 rest)) in
    lines-cut text some ∙ ap (λ (r : List ℕ). take (feed text) text ∷ lines r) (e ∙ ap (drop 1) (sym is) ∙ sym all)

-- if nothing is left after the blanks, then the text has no words
pub no_word_left : (text rest : List ℕ) → rest ≡ drop (word_place text) text → length rest ≡ 0 → words_between_blanks text ≡ []
unfolding words_between_blanks
no_word_left text rest is none = (words-skip text).0 ∙ ap words_between_blanks (sym is ∙ nil_from_length rest none)

-- otherwise the words of the text are the next word, and then the words after it
pub next_word : (text rest : List ℕ) → rest ≡ drop (word_place text) text → 0 < length rest → words_between_blanks text ≡ take (blank_place rest) rest ∷ words_between_blanks (drop (blank_place rest) rest)
next_word text rest is some = (words-skip text).0 ∙ ap words_between_blanks (sym is) ∙ words-cut rest some (subst BeginsWord (sym is) (words-skip text).1)

-- the bytes after the map's text begin a section, if there are any
both_true : (a b : Bool) → (a && b) ≡ true → b ≡ true
both_true true b e = e
both_true false b e = absurd (false≢true e)

cut_or_go_on : (b : ℕ) (bs : List ℕ) (n : ℕ) (here : Bool) → (here ≡ true → (b == 37) ≡ true) → (0 < length (drop n bs) → begins_section (drop n bs) ≡ true)
    → 0 < length (drop (cond here 0 (n + 1)) (b ∷ bs)) → begins_section (drop (cond here 0 (n + 1)) (b ∷ bs)) ≡ true
cut_or_go_on b bs n true is below = λ some. is refl
cut_or_go_on b bs n false is below = let e : n + 1 ≡ suc n = omega arith in rw e below

begins-at_cut : (starts : Bool) (job : List ℕ) → 0 < length (drop (length_to_section starts job) job) → begins_section (drop (length_to_section starts job) job) ≡ true
begins-at_cut starts [] = λ some. absurd (omega arith)
begins-at_cut starts (b ∷ bs) = cut_or_go_on b bs (length_to_section (b == 10) bs) (starts && b == 37) (both_true starts (b == 37)) (begins-at_cut (b == 10) bs)

pub section_part-begins : (job : List ℕ) → 0 < length (section_part job) → begins_section (section_part job) ≡ true
section_part-begins job = begins-at_cut true job

-- the rest of a text after no words, and after one more word
pub behind_none : (text : List ℕ) → text ≡ behind_words 0 text
unfolding behind_words
behind_none text = refl

pub behind_next : (n : ℕ) (text : List ℕ) → behind_word (behind_words n text) ≡ behind_words (n + 1) text
unfolding behind_words
behind_next n text = ap (λ m. behind_words m text) (let e : suc n ≡ n + 1 = omega arith in e)
