-- Each word of a text is a brace or a name.
use Rattle.std.proofs.Common.{◌≡◌, ℕ, ◌+◌, Bool, true, false, eqb, ltb, List, [], ◌∷◌, length, refl, subst, arith}
use Rattle.std.proofs.lemmas.Bool.{ltb-false, le-leb, lt-ltb, or_right}
use Rattle.std.proofs.lemmas.Bool.Decides.{nat_tests}
use Rattle.std.specs.Prelude.{◌&&◌, ◌||◌, nat_lt}
use Rattle.std.specs.List.{list_all}
use Rattle.crush_units.specs.Name.{is_name_byte, is_name}
use Rattle.crush_units.specs.declared.limits.TheConstants.{LONGEST_NAME}
use Rattle.crush_units.specs.Words.{Word, Stop, Text, is_blank, is_brace, without_comments, first, onto_words, begins_with_name_byte, split, up_to_long, words_in, words, is_brace_word, AreFormed}

-- whether a word is a brace, or a run of name bytes of whatever length
abbrev is_run : List ℕ → Bool
is_run text = is_brace_word text || (nat_lt 0 (length text) && list_all is_name_byte text)

-- each word is a brace or a run
abbrev AreRuns : List Word → Type 0
AreRuns [] = Unit {0}
AreRuns (w ∷ ws) = (is_run w.text ≡ true) × AreRuns ws

-- if there is a first word, all its bytes are name bytes
abbrev BeginsWithRun : List Word → Type 0
BeginsWithRun [] = Unit {0}
BeginsWithRun (w ∷ ws) = list_all is_name_byte w.text ≡ true

-- a name byte before name bytes gives a run
run_of : (b : ℕ) (text : List ℕ) → is_name_byte b ≡ true → list_all is_name_byte text ≡ true → is_run (b ∷ text) ≡ true
run_of b text l all = let some : ltb 0 (length (b ∷ text)) ≡ true = lt-ltb _ _ (omega arith) in or_right (is_brace_word (b ∷ text)) _ (rw (some, l, all) refl)

-- if a name byte is added to the front of the first word, each word is still a run
onto_runs : (p b : ℕ) (ws : List Word) → is_name_byte b ≡ true → BeginsWithRun ws → AreRuns ws → AreRuns (onto_words p b ws)
onto_runs p b [] l begins runs = (run_of b [] l refl, tt)
onto_runs p b (w ∷ ws) l begins runs = (run_of b w.text l begins, runs.1)

-- if a name byte is added to the front of the first word, the first word is still a run
onto_begins : (p b : ℕ) (ws : List Word) → is_name_byte b ≡ true → BeginsWithRun ws → BeginsWithRun (onto_words p b ws)
onto_begins p b [] l begins = rw l refl
onto_begins p b (w ∷ ws) l begins = rw (l, begins) refl

-- a brace by itself is a word
brace_run : (b : ℕ) → is_brace b ≡ true → is_run (b ∷ []) ≡ true
brace_run b h = tests (eqb b 123) (eqb b 125) refl refl
  where
    tests : (x y : Bool) → eqb b 123 ≡ x → eqb b 125 ≡ y → is_run (b ∷ []) ≡ true
    tests true y e f = rw e refl
    tests false true e f = rw (e, f) refl
    tests false false e f = absurd (grind (arith, nat_tests))

-- no blank is a name byte
no_blank : (b : ℕ) → is_blank b ≡ true → is_name_byte b ≡ true → ⊥
no_blank b h l = grind (arith, nat_tests)

-- no brace is a name byte
no_brace : (b : ℕ) → is_brace b ≡ true → is_name_byte b ≡ true → ⊥
no_brace b h l = grind (arith, nat_tests)

-- the words of bytes are runs, and they begin with a run if the bytes begin with a name byte
record AreSplit (bytes : List ℕ) (t : Text) : Type 0 where
  runs : AreRuns t.words
  begins : begins_with_name_byte bytes ≡ true → BeginsWithRun t.words

-- the words of bytes are braces and runs
are_split : (p : ℕ) (bytes : List ℕ) → AreSplit bytes (split p bytes)
unfolding split
are_split p [] = record { runs = tt; begins = λ e. tt }
are_split p (b ∷ bs) = by_tests (is_blank b) (is_brace b) (is_name_byte b) (begins_with_name_byte bs) refl refl refl refl (are_split (p + 1) bs)
  where
    by_tests : (k c l n : Bool) → is_blank b ≡ k → is_brace b ≡ c → is_name_byte b ≡ l → begins_with_name_byte bs ≡ n → AreSplit bs (split (p + 1) bs) → AreSplit (b ∷ bs) (split p (b ∷ bs))
    by_tests true c l n hk hc hl hn ih = record { runs = rw hk ih.runs; begins = λ e. absurd (no_blank b hk e) }
    by_tests false true l n hk hc hl hn ih = record { runs = rw (hk, hc) (brace_run b hc, ih.runs); begins = λ e. absurd (no_brace b hc e) }
    by_tests false false true true hk hc hl hn ih = record {
      runs = rw (hk, hc, hl, hn) (onto_runs p b (split (p + 1) bs).words hl (ih.begins hn) ih.runs);
      begins = λ e. rw (hk, hc, hl, hn) (onto_begins p b (split (p + 1) bs).words hl (ih.begins hn));
    }
    by_tests false false true false hk hc hl hn ih = record {
      runs = rw (hk, hc, hl, hn) (run_of b [] hl refl, ih.runs);
      begins = λ e. rw (hk, hc, hl, hn) (rw hl refl);
    }
    by_tests false false false n hk hc hl hn ih = record { runs = rw (hk, hc, hl) tt; begins = λ e. absurd cc }

-- a run that isn't too long is a name
short_run : (a b l x : Bool) → (a || (b && x)) ≡ true → l ≡ true → (a || (b && l && x)) ≡ true
short_run true b l x h e = refl
short_run false true true x h e = h
short_run false true false x h e = absurd cc
short_run false false l x h e = absurd cc

-- the words before a long one are braces and names
are_formed : (ws : List Word) (stop : Stop) → AreRuns ws → AreFormed (up_to_long ws stop).words
unfolding up_to_long
are_formed [] stop runs = tt
are_formed (w ∷ ws) stop runs = by_test (ltb LONGEST_NAME (length w.text)) refl (are_formed ws stop runs.1)
  where
    by_test : (long : Bool) → ltb LONGEST_NAME (length w.text) ≡ long → AreFormed (up_to_long ws stop).words → AreFormed (up_to_long (w ∷ ws) stop).words
    by_test true e ih = rw e tt
    by_test false e ih = rw e (short_run _ _ _ _ runs.0 (le-leb _ _ (ltb-false _ _ e)), ih)

-- each word of bytes is a brace or a name
pub words_are_formed : (p : ℕ) (bytes : List ℕ) → AreFormed (words p bytes).words
unfolding words_in
words_are_formed p bytes = are_formed _ _ (are_split p (without_comments false bytes)).runs

-- the first word of a text is a brace or a name
pub first_is_formed : (p from : ℕ) (bytes text : List ℕ) (t : Text) → words from bytes ≡ first p text t → (is_brace_word text || is_name text) ≡ true
first_is_formed p from bytes text t e = let k : AreFormed (first p text t).words = subst (λ (u : Text). AreFormed u.words) e (words_are_formed from bytes) in k.0
