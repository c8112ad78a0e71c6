-- No line of a map's text begins with `%`.
use Rattle.std.proofs.Common.{◌≡◌, ℕ, ◌+◌, ◌==◌, ◌&&◌, Bool, true, false, cond, List, [], ◌∷◌, length, nat_lt, true≢false, refl, ap, ◌∙◌, arith}
use Rattle.std.proofs.lemmas.Bool.Decides.{nat_tests}
use Rattle.crush_units.specs.Name.{is_name_byte}
use Rattle.crush_units.specs.declared.limits.TheConstants.{LONGEST_NAME}
use Rattle.crush_units.specs.Words.{Word, Stop, ended, bad, is_blank, is_brace, without_comments, first, stopped, onto_words, begins_with_name_byte, split, up_to_long, words_in}
use Rattle.crush_script.specs.Lines.{length_to_section}
use Rattle.crush_script.specs.ScriptsText.{MapTextsHaveNoSection}

-- if reading stops at the end of the text although words that are too long stop it, then it also stops there without this check
stop_of_all : (ws : List Word) (stop : Stop) (q : ℕ) → (up_to_long ws stop).stop ≡ ended q → stop ≡ ended q
unfolding up_to_long
stop_of_all [] stop q h = h
stop_of_all (w ∷ ws) stop q h = by_test (nat_lt LONGEST_NAME (length w.text)) h (stop_of_all ws stop q)
  where
    by_test : (v : Bool) → (cond v (stopped (bad w.place)) (first w.place w.text (up_to_long ws stop))).stop ≡ ended q → ((up_to_long ws stop).stop ≡ ended q → stop ≡ ended q) → stop ≡ ended q
    by_test true h more = absurd cc
    by_test false h more = more h

-- if the words of a text end with the text, then its first byte isn't `%`, and the words after this byte also end with the text
record Goes (p b : ℕ) (bs : List ℕ) (q : ℕ) : Type 0 where
  other : (b == 37) ≡ false
  more : (split (p + 1) bs).stop ≡ ended q

goes : (p b : ℕ) (bs : List ℕ) (q : ℕ) → (split p (b ∷ bs)).stop ≡ ended q → Goes p b bs q
unfolding split
goes p b bs q h = by_byte (is_blank b) (is_brace b) (is_name_byte b) (begins_with_name_byte bs) refl refl refl h
  where
    by_byte : (v w x y : Bool) → is_blank b ≡ v → is_brace b ≡ w → is_name_byte b ≡ x
        → (cond v (split (p + 1) bs) (cond w (first p (b ∷ []) (split (p + 1) bs)) (cond x (cond y (record { words = onto_words p b (split (p + 1) bs).words; stop = (split (p + 1) bs).stop }) (first p (b ∷ []) (split (p + 1) bs))) (stopped (bad p))))).stop ≡ ended q → Goes p b bs q
    by_byte true w x y e f g h = record { other = grind (arith, nat_tests); more = h }
    by_byte false true x y e f g h = record { other = grind (arith, nat_tests); more = h }
    by_byte false false true true e f g h = record { other = grind (arith, nat_tests); more = h }
    by_byte false false true false e f g h = record { other = grind (arith, nat_tests); more = h }
    by_byte false false false y e f g h = absurd cc

-- a byte that doesn't begin a section
one_more : (starts : Bool) (b : ℕ) (bs : List ℕ) → (starts && (b == 37)) ≡ false → length_to_section (b == 10) bs ≡ length bs → length_to_section starts (b ∷ bs) ≡ length (b ∷ bs)
one_more starts b bs other h = rw other (omega (arith, h))

never : (v : Bool) → (v && false) ≡ false
never true = refl
never false = refl

-- what has to be true of the bytes after the first byte, inside a comment or not
abbrev Rest : Bool → ℕ → List ℕ → ℕ → Type 0
Rest starts p bytes q = (inside : Bool) → (starts && inside) ≡ false → (split p (without_comments inside bytes)).stop ≡ ended q → length_to_section starts bytes ≡ length bytes

-- if the words end with the text, then no line begins with `%`; a line never begins inside a comment
no_section : (inside starts : Bool) (p : ℕ) (bytes : List ℕ) (q : ℕ) → (starts && inside) ≡ false → (split p (without_comments inside bytes)).stop ≡ ended q → length_to_section starts bytes ≡ length bytes
no_section inside starts p [] q apart h = refl
no_section true true p (b ∷ bs) q apart h = absurd (true≢false apart)
no_section true false p (b ∷ bs) q apart h = by_test (b == 10) refl h (λ inside. no_section inside (b == 10) (p + 1) bs q)
  where
    by_test : (v : Bool) → (b == 10) ≡ v → (split p (cond v (10 ∷ without_comments false bs) (32 ∷ without_comments true bs))).stop ≡ ended q → Rest (b == 10) (p + 1) bs q → length_to_section false (b ∷ bs) ≡ length (b ∷ bs)
    by_test true e h rest = one_more false b bs refl (rest false (never (b == 10)) (goes p 10 (without_comments false bs) q h).more)
    by_test false e h rest = one_more false b bs refl (rest true (ap (λ (v : Bool). v && true) e) (goes p 32 (without_comments true bs) q h).more)
no_section false starts p (b ∷ bs) q apart h = by_test (b == 35) refl h (λ inside. no_section inside (b == 10) (p + 1) bs q)
  where
    by_test : (v : Bool) → (b == 35) ≡ v → (split p (cond v (32 ∷ without_comments true bs) (b ∷ without_comments false bs))).stop ≡ ended q → Rest (b == 10) (p + 1) bs q → length_to_section starts (b ∷ bs) ≡ length (b ∷ bs)
    by_test true e h rest =
        let mark : (b == 37) ≡ false = grind (arith, nat_tests) in
        let feed : (b == 10) ≡ false = grind (arith, nat_tests) in
        one_more starts b bs (ap (λ (v : Bool). starts && v) mark ∙ never starts) (rest true (ap (λ (v : Bool). v && true) feed) (goes p 32 (without_comments true bs) q h).more)
    by_test false e h rest =
        let on = goes p b (without_comments false bs) q h in
        one_more starts b bs (ap (λ (v : Bool). starts && v) on.other ∙ never starts) (rest false (never (b == 10)) on.more)

pub map_texts_have_no_section : MapTextsHaveNoSection
unfolding words_in
map_texts_have_no_section text s t adjusted is =
    let end = is.document.end in
    no_section false true 0 text end.0 refl (stop_of_all (split 0 (without_comments false text)).words (split 0 (without_comments false text)).stop end.0 end.1)
