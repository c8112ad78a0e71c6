-- The words of a printed text. Each lemma takes one piece off the front of the text.
use Rattle.std.proofs.Common.{◌≡◌, ℕ, ◌+◌, Bool, true, false, eqb, List, [], ◌∷◌, ◌++◌, length, drop, refl, sym, ap, ◌∙◌, arith}
use Rattle.std.proofs.lemmas.List.{take_at, drop_at}
use Rattle.std.proofs.lemmas.Bool.Decides.{nat_tests}
use Rattle.std.specs.Prelude.{◌&&◌, not}
use Rattle.std.specs.List.{list_all}
use Rattle.crush_units.specs.Name.{is_name_byte, IsName}
use Rattle.crush_units.specs.Words.{Text, texts, ended, is_blank, is_brace, first, words, words_in, run_length}
use Rattle.crush_units.proofs.Split.{blank, opens, closes, inside, at_end, brace, word}

-- at whatever place the bytes begin, their words are these, and then the text ends
pub record Holds (bytes : List ℕ) (ws : List (List ℕ)) : Type 0 where
  pub texts_are : (p : ℕ) → texts (words p bytes).words ≡ ws
  pub ends : (p : ℕ) → (q : ℕ) × ((words p bytes).stop ≡ ended q)

-- no bytes hold no words
pub holds_nothing : Holds [] []
holds_nothing = record { texts_are = λ p. ap (λ (t : Text). texts t.words) (at_end false p); ends = λ p. (p, ap (λ (t : Text). t.stop) (at_end false p)) }

-- if bytes begin with a word, their words are this word and the words of the rest
by_words : (bytes : List ℕ) (w : List ℕ) (rest : List ℕ) (ws : List (List ℕ)) (n : ℕ) → ((p : ℕ) → words p bytes ≡ first p w (words (p + n) rest)) → Holds rest ws → Holds bytes (w ∷ ws)
by_words bytes w rest ws n is h = record {
  texts_are = λ p. ap (λ (t : Text). texts t.words) (is p) ∙ ap (λ (l : List (List ℕ)). w ∷ l) (h.texts_are (p + n));
  ends = λ p. ((h.ends (p + n)).0, ap (λ (t : Text). t.stop) (is p) ∙ (h.ends (p + n)).1);
}

-- if bytes begin with something that can be skipped, their words are the words of the rest
by_same : (bytes rest : List ℕ) (ws : List (List ℕ)) (n : ℕ) → ((p : ℕ) → words p bytes ≡ words (p + n) rest) → Holds rest ws → Holds bytes ws
by_same bytes rest ws n is h = record {
  texts_are = λ p. ap (λ (t : Text). texts t.words) (is p) ∙ h.texts_are (p + n);
  ends = λ p. ((h.ends (p + n)).0, ap (λ (t : Text). t.stop) (is p) ∙ (h.ends (p + n)).1);
}

-- a blank before other bytes can be skipped
pub holds_blank : (b : ℕ) (rest : List ℕ) (ws : List (List ℕ)) → is_blank b ≡ true → eqb b 35 ≡ false → Holds rest ws → Holds (b ∷ rest) ws
holds_blank b rest ws h n k = by_same (b ∷ rest) rest ws 1 (λ p. blank p b rest h n) k

-- a brace before other bytes is a word
pub holds_brace : (b : ℕ) (rest : List ℕ) (ws : List (List ℕ)) → is_blank b ≡ false → eqb b 35 ≡ false → is_brace b ≡ true → Holds rest ws → Holds (b ∷ rest) ((b ∷ []) ∷ ws)
holds_brace b rest ws h n e k = by_words (b ∷ rest) (b ∷ []) rest ws 1 (λ p. brace p b rest h n e) k

-- if `a && b` is true, both tests hold
and_true : (a b : Bool) → (a && b) ≡ true → (a ≡ true) × (b ≡ true)
and_true true b e = (refl, e)
and_true false b e = absurd cc

-- a run ends before a byte that isn't a name byte
run_length-append : (w : List ℕ) (s : ℕ) (rest : List ℕ) → list_all is_name_byte w ≡ true → is_name_byte s ≡ false → run_length (w ++ s ∷ rest) ≡ length w
run_length-append [] s rest h e = rw e refl
run_length-append (b ∷ w) s rest h e = let k = and_true (is_name_byte b) (list_all is_name_byte w) h in rw (k.0, run_length-append w s rest k.1 e) (omega arith)

-- the first byte of a run is a name byte
first_byte : (b : ℕ) (w : List ℕ) → list_all is_name_byte (b ∷ w) ≡ true → is_name_byte b ≡ true
first_byte b w h = (and_true (is_name_byte b) (list_all is_name_byte w) h).0

-- a blank isn't a name byte
blank_plain : (s : ℕ) → is_blank s ≡ true → is_name_byte s ≡ false
blank_plain s h = grind (arith, nat_tests)

-- a blank doesn't begin a comment
blank_open : (s : ℕ) → is_blank s ≡ true → eqb s 35 ≡ false
blank_open s h = grind (arith, nat_tests)

-- a name that is followed by a blank is a word
pub holds_word : (w : List ℕ) (s : ℕ) (rest : List ℕ) (ws : List (List ℕ)) → IsName w → is_blank s ≡ true → Holds rest ws → Holds (w ++ s ∷ rest) (w ∷ ws)
holds_word [] s rest ws is h k = absurd (omega (arith, is.some))
holds_word (b ∷ w) s rest ws is h k =
    let n : run_length ((b ∷ w) ++ s ∷ rest) ≡ length (b ∷ w) = run_length-append (b ∷ w) s rest is.allowed (blank_plain s h) in
    by_words ((b ∷ w) ++ s ∷ rest) (b ∷ w) (s ∷ rest) ws (length (b ∷ w))
    (λ p. word p b (w ++ s ∷ rest) (first_byte b w is.allowed) (omega (arith, n, is.few))
    ∙ ap (λ (l : List ℕ). first p l (words (p + run_length ((b ∷ w) ++ s ∷ rest)) (drop (run_length ((b ∷ w) ++ s ∷ rest)) ((b ∷ w) ++ s ∷ rest)))) (take_at (b ∷ w) (s ∷ rest) _ (sym n))
    ∙ ap (λ (l : List ℕ). first p (b ∷ w) (words (p + run_length ((b ∷ w) ++ s ∷ rest)) l)) (drop_at (b ∷ w) (s ∷ rest) _ (sym n))
    ∙ ap (λ (m : ℕ). first p (b ∷ w) (words (p + m) (s ∷ rest))) n)
    (holds_blank s rest ws h (blank_open s h) k)

-- the rest of a comment, up to its line feed, can be skipped
comment_rest : (c : List ℕ) (rest : List ℕ) → list_all (λ b. not (eqb b 10)) c ≡ true → (p : ℕ) → words_in true p (c ++ 10 ∷ rest) ≡ words (p + (length c + 1)) rest
comment_rest [] rest h p = closes p 10 rest refl ∙ ap (λ (q : ℕ). words q rest) (omega arith)
comment_rest (b ∷ c) rest h p =
    let k = and_true (not (eqb b 10)) (list_all (λ x. not (eqb x 10)) c) h in
    inside p b (c ++ 10 ∷ rest) (grind (arith, nat_tests)) ∙ comment_rest c rest k.1 (p + 1) ∙ ap (λ (q : ℕ). words q rest) (omega arith)

-- a comment with its line feed can be skipped
pub holds_comment : (c : List ℕ) (rest : List ℕ) (ws : List (List ℕ)) → list_all (λ b. not (eqb b 10)) c ≡ true → Holds rest ws → Holds (35 ∷ c ++ 10 ∷ rest) ws
holds_comment c rest ws h k = by_same (35 ∷ c ++ 10 ∷ rest) rest ws (1 + (length c + 1)) (λ p. opens p 35 (c ++ 10 ∷ rest) refl ∙ comment_rest c rest h (p + 1) ∙ ap (λ (q : ℕ). words q rest) (omega arith)) k
