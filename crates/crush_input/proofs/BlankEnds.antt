-- Blanks and comments at the end of a map's text don't change the map.
use Rattle.std.proofs.Common.{◌≡◌, ℕ, ◌+◌, ◌==◌, not, Bool, true, false, cond, List, [], ◌∷◌, ◌++◌, length, nat_lt, refl, sym, ap, subst, arith}
use Rattle.std.specs.List.{list_all}
use Rattle.std.proofs.lemmas.Bool.{and_parts}
use Rattle.std.proofs.lemmas.Bool.Decides.{nat_tests}
use Rattle.crush_model.specs.Table.{Row}
use Rattle.crush_edits.specs.Setting.{SettingData}
use Rattle.crush_units.specs.Name.{is_name_byte}
use Rattle.crush_units.specs.declared.limits.TheConstants.{LONGEST_NAME}
use Rattle.crush_units.specs.Words.{Word, Stop, Text, ended, bad, is_blank, is_brace, without_comments, first, stopped, onto_words, begins_with_name_byte, split, up_to_long, words, words_in}
use Rattle.crush_text.specs.Document.{IsMapText, Spell, start}

-- whether bytes end inside a comment; the first argument says whether they begin inside one
abbrev pub ends_inside : Bool → List ℕ → Bool
ends_inside inside [] = inside
ends_inside false (b ∷ bs) = ends_inside (b == 35) bs
ends_inside true (b ∷ bs) = ends_inside (not (b == 10)) bs

-- the first of two texts has the same words as the second, and if its words end with the text, then so do those of the second
record EndsAlike (s t : Text) : Type 0 where
  words : s.words ≡ t.words
  stop : (q : ℕ) → s.stop ≡ ended q → (r : ℕ) × (t.stop ≡ ended r)

-- comments are replaced in two texts, one after the other, as in both texts together
comments-append : (inside : Bool) (bytes more : List ℕ) → without_comments inside (bytes ++ more) ≡ without_comments inside bytes ++ without_comments (ends_inside inside bytes) more
comments-append inside [] more = refl
comments-append false (b ∷ bs) more = by_test (b == 35) (λ inside. comments-append inside bs more)
  where
    by_test : (v : Bool) → ((inside : Bool) → without_comments inside (bs ++ more) ≡ without_comments inside bs ++ without_comments (ends_inside inside bs) more)
        → cond v (32 ∷ without_comments true (bs ++ more)) (b ∷ without_comments false (bs ++ more)) ≡ cond v (32 ∷ without_comments true bs) (b ∷ without_comments false bs) ++ without_comments (ends_inside v bs) more
    by_test true rest = ap (λ (l : List ℕ). 32 ∷ l) (rest true)
    by_test false rest = ap (λ (l : List ℕ). b ∷ l) (rest false)
comments-append true (b ∷ bs) more = by_test (b == 10) (λ inside. comments-append inside bs more)
  where
    by_test : (v : Bool) → ((inside : Bool) → without_comments inside (bs ++ more) ≡ without_comments inside bs ++ without_comments (ends_inside inside bs) more)
        → cond v (10 ∷ without_comments false (bs ++ more)) (32 ∷ without_comments true (bs ++ more)) ≡ cond v (10 ∷ without_comments false bs) (32 ∷ without_comments true bs) ++ without_comments (ends_inside (not v) bs) more
    by_test true rest = ap (λ (l : List ℕ). 10 ∷ l) (rest false)
    by_test false rest = ap (λ (l : List ℕ). 32 ∷ l) (rest true)

-- blanks have no words
no_words : (p : ℕ) (blanks : List ℕ) → list_all is_blank blanks ≡ true → (split p blanks).words ≡ []
unfolding split
no_words p [] h = refl
no_words p (b ∷ bs) h =
    let k = and_parts (is_blank b) (list_all is_blank bs) h in
    let blank = k.0 in
    rw blank (no_words (p + 1) bs k.1)

-- a blank isn't part of a word
not_in_name : (b : ℕ) → is_blank b ≡ true → is_name_byte b ≡ false
not_in_name b h = grind (arith, nat_tests)

same_beginning : (bytes blanks : List ℕ) → list_all is_blank blanks ≡ true → begins_with_name_byte (bytes ++ blanks) ≡ begins_with_name_byte bytes
same_beginning [] [] h = refl
same_beginning [] (b ∷ bs) h = not_in_name b (and_parts (is_blank b) (list_all is_blank bs) h).0
same_beginning (b ∷ bs) blanks h = refl

-- the words of bytes that begin with the byte b: it is a blank, a brace or part of a name, or none of these; `more` says whether the next byte is part of a name
abbrev with_byte : (blank brace name more : Bool) → ℕ → ℕ → Text → Text
with_byte blank brace name more p b t =
    cond blank t (cond brace (first p (b ∷ []) t) (cond name (cond more (record { words = onto_words p b t.words; stop = t.stop }) (first p (b ∷ []) t)) (stopped (bad p))))

alike_with_byte : (blank brace name more : Bool) (p b : ℕ) (s t : Text) → EndsAlike s t → EndsAlike (with_byte blank brace name more p b s) (with_byte blank brace name more p b t)
alike_with_byte true brace name more p b s t is = is
alike_with_byte false true name more p b s t is = record { words = ap (λ (ws : List Word). (record { place = p; text = b ∷ [] }) ∷ ws) is.words; stop = is.stop }
alike_with_byte false false true true p b s t is = record { words = ap (onto_words p b) is.words; stop = is.stop }
alike_with_byte false false true false p b s t is = record { words = ap (λ (ws : List Word). (record { place = p; text = b ∷ [] }) ∷ ws) is.words; stop = is.stop }
alike_with_byte false false false more p b s t is = record { words = refl; stop = λ q h. (q, h) }

-- blanks after bytes without comments
blanks_behind : (p : ℕ) (bytes blanks : List ℕ) → list_all is_blank blanks ≡ true → EndsAlike (split p (bytes ++ blanks)) (split p bytes)
unfolding split
blanks_behind p [] blanks h = record { words = no_words p blanks h; stop = λ q e. (p, refl) }
blanks_behind p (b ∷ bs) blanks h =
    subst (λ (more : Bool). EndsAlike (with_byte (is_blank b) (is_brace b) (is_name_byte b) more p b (split (p + 1) (bs ++ blanks))) (split p (b ∷ bs))) (sym (same_beginning bs blanks h))
    (alike_with_byte (is_blank b) (is_brace b) (is_name_byte b) (begins_with_name_byte bs) p b (split (p + 1) (bs ++ blanks)) (split (p + 1) bs) (blanks_behind (p + 1) bs blanks h))

-- the check for words that are too long
long_alike : (ws : List Word) (a b : Stop) → ((q : ℕ) → a ≡ ended q → (r : ℕ) × (b ≡ ended r)) → EndsAlike (up_to_long ws a) (up_to_long ws b)
unfolding up_to_long
long_alike [] a b h = record { words = refl; stop = h }
long_alike (w ∷ ws) a b h = by_test (nat_lt LONGEST_NAME (length w.text)) (long_alike ws a b h)
  where
    by_test : (v : Bool) → EndsAlike (up_to_long ws a) (up_to_long ws b)
        → EndsAlike (cond v (stopped (bad w.place)) (first w.place w.text (up_to_long ws a))) (cond v (stopped (bad w.place)) (first w.place w.text (up_to_long ws b)))
    by_test true is = record { words = refl; stop = λ q e. (q, e) }
    by_test false is = record { words = ap (λ (l : List Word). (record { place = w.place; text = w.text }) ∷ l) is.words; stop = is.stop }

-- BLANK: the bytes have only blanks and comments after these bytes
abbrev pub IsBlankAfter : List ℕ → List ℕ → Type 0
IsBlankAfter bytes more = list_all is_blank (without_comments (ends_inside false bytes) more) ≡ true

words_alike : (bytes more : List ℕ) → IsBlankAfter bytes more → EndsAlike (words 0 (bytes ++ more)) (words 0 bytes)
unfolding words_in
words_alike bytes more blank =
    let s : Text = split 0 (without_comments false bytes ++ without_comments (ends_inside false bytes) more) in
    let t : Text = split 0 (without_comments false bytes) in
    let alike : EndsAlike s t = blanks_behind 0 (without_comments false bytes) (without_comments (ends_inside false bytes) more) blank in
    subst (λ (text : List ℕ). EndsAlike (up_to_long (split 0 text).words (split 0 text).stop) (up_to_long t.words t.stop)) (sym (comments-append false bytes more))
    (subst (λ (ws : List Word). EndsAlike (up_to_long ws s.stop) (up_to_long t.words t.stop)) (sym alike.words) (long_alike t.words s.stop t.stop alike.stop))

-- a map's text stays the text of this map without the blanks and comments at its end
pub map_text_without_end : (bytes more : List ℕ) (s : SettingData) (t : List Row) (adjusted : ℕ) → IsBlankAfter bytes more → IsMapText (bytes ++ more) s t adjusted → IsMapText bytes s t adjusted
map_text_without_end bytes more s t adjusted blank is =
    let alike = words_alike bytes more blank in
    record {
      draft = is.draft;
      document = record {
        last = is.document.last;
        spelled = subst (λ (ws : List Word). Spell start ws [] is.document.last) alike.words is.document.spelled;
        whole = is.document.whole;
        end = alike.stop is.document.end.0 is.document.end.1;
      };
      setting = is.setting;
      table = is.table;
      count = is.count;
    }
