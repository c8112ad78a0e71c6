-- What a text begins with, by the kind of its first byte.
use Rattle.std.proofs.Common.{◌≡◌, ◌≢◌, ℕ, suc, ◌+◌, ◌<◌, ◌≤◌, Bool, true, false, ltb, eqb, inl, inr, List, [], ◌∷◌, length, get_or, take, drop, refl, sym, ap, subst, ◌∙◌, arith}
use Rattle.std.proofs.lemmas.Bool.Decides.{nat_tests}
use Rattle.std.proofs.lemmas.Bool.{le-ltb, lt-ltb, ne_eqb}
use Rattle.std.proofs.lemmas.List.{length-take, drop_more, drop-drop, drop_all}
use Rattle.std.specs.Prelude.{not, ◌⊎◌}
use Rattle.crush_units.specs.Name.{is_name_byte}
use Rattle.crush_units.specs.declared.limits.TheConstants.{LONGEST_NAME}
use Rattle.crush_units.specs.Words.{Text, ended, bad, is_blank, is_brace, without_comments, stopped, first, onto_words, begins_with_name_byte, split, up_to_long, words_in, words, run_length, IsClear}

-- a blank outside a comment can be skipped: the words are those of the bytes after it
pub blank : (p b : ℕ) (bs : List ℕ) → is_blank b ≡ true → eqb b 35 ≡ false → words_in false p (b ∷ bs) ≡ words_in false (p + 1) bs
unfolding split words_in
blank p b bs h n = rw (n, h) refl

-- a `#` outside a comment begins a comment
pub opens : (p b : ℕ) (bs : List ℕ) → b ≡ 35 → words_in false p (b ∷ bs) ≡ words_in true (p + 1) bs
unfolding split words_in
opens p b bs h = rw h refl

-- a byte of a comment that isn't a line feed can be skipped
pub inside : (p b : ℕ) (bs : List ℕ) → eqb b 10 ≡ false → words_in true p (b ∷ bs) ≡ words_in true (p + 1) bs
unfolding split words_in
inside p b bs h = rw h refl

-- a line feed ends a comment
pub closes : (p b : ℕ) (bs : List ℕ) → eqb b 10 ≡ true → words_in true p (b ∷ bs) ≡ words_in false (p + 1) bs
unfolding split words_in
closes p b bs h = rw h refl

-- at the end of the bytes, no word is left
pub at_end : (inside : Bool) (p : ℕ) → words_in inside p [] ≡ stopped (ended p)
unfolding split up_to_long words_in
at_end true p = refl
at_end false p = refl

-- a brace is a word
pub brace : (p b : ℕ) (bs : List ℕ) → is_blank b ≡ false → eqb b 35 ≡ false → is_brace b ≡ true → words_in false p (b ∷ bs) ≡ first p (b ∷ []) (words_in false (p + 1) bs)
unfolding split up_to_long words_in
brace p b bs h n e = rw (n, h, e) refl

-- a byte that no text may have ends the words
pub other : (p b : ℕ) (bs : List ℕ) → is_blank b ≡ false → eqb b 35 ≡ false → is_brace b ≡ false → is_name_byte b ≡ false → words_in false p (b ∷ bs) ≡ stopped (bad p)
unfolding split up_to_long words_in
other p b bs h n e l = rw (n, h, e, l) refl

-- a byte that isn't a blank, doesn't begin a comment and isn't a brace
pub record IsPlain (b : ℕ) : Type 0 where
  pub blank : is_blank b ≡ false
  pub comment : eqb b 35 ≡ false
  pub brace : is_brace b ≡ false

-- a name byte is such a byte
pub plain : (b : ℕ) → is_name_byte b ≡ true → IsPlain b
plain b l = record { blank = grind (arith, nat_tests); comment = grind (arith, nat_tests); brace = grind (arith, nat_tests) }

-- the bytes begin with a run of name bytes that is a word
abbrev Runs : ℕ → List ℕ → Type 0
Runs p bytes = split p (without_comments false bytes) ≡ first p (take (run_length bytes) bytes) (split (p + run_length bytes) (without_comments false (drop (run_length bytes) bytes)))

-- a name byte before another name byte is added to the front of the other byte's word
byte_on : (p b : ℕ) (rest : List ℕ) → is_name_byte b ≡ true → begins_with_name_byte rest ≡ true → split p (b ∷ rest) ≡ record { words = onto_words p b (split (p + 1) rest).words; stop = (split (p + 1) rest).stop }
unfolding split
byte_on p b rest l e = let f = plain b l in rw (f.blank, f.brace, l, e) refl

-- a name byte before any other byte, or at the end, is a word by itself
byte_last : (p b : ℕ) (rest : List ℕ) → is_name_byte b ≡ true → begins_with_name_byte rest ≡ false → split p (b ∷ rest) ≡ first p (b ∷ []) (split (p + 1) rest)
unfolding split
byte_last p b rest l e = let f = plain b l in rw (f.blank, f.brace, l, e) refl

-- a byte outside a comment isn't replaced
stays : (b : ℕ) (bs : List ℕ) → eqb b 35 ≡ false → without_comments false (b ∷ bs) ≡ b ∷ without_comments false bs
stays b bs e = rw e refl

-- if the bytes don't begin with a name byte, they don't after comments are replaced
no_name_byte : (v : Bool) (c : ℕ) (cs : List ℕ) → eqb c 35 ≡ v → is_name_byte c ≡ false → begins_with_name_byte (without_comments false (c ∷ cs)) ≡ false
no_name_byte true c cs e l = rw e refl
no_name_byte false c cs e l = rw (e, l) refl

-- a run of one byte is a word
one_word : (p b : ℕ) (bs : List ℕ) → is_name_byte b ≡ true → begins_with_name_byte (without_comments false bs) ≡ false → run_length bs ≡ 0 → Runs p (b ∷ bs)
one_word p b bs l e z = let f = plain b l in rw (stays b bs f.comment, l, z) (byte_last p b (without_comments false bs) l e)

-- if a run is a word, then the run with one more byte is a word
run_more : (v : Bool) (p b c : ℕ) (cs : List ℕ) → is_name_byte b ≡ true → is_name_byte c ≡ v → (v ≡ true → Runs (p + 1) (c ∷ cs)) → Runs p (b ∷ c ∷ cs)
run_more true p b c cs l e ih =
    let f = plain b l in
    let g = plain c e in
    let more : 1 + run_length (c ∷ cs) ≡ suc (run_length (c ∷ cs)) = omega arith in
    let far : p + suc (run_length (c ∷ cs)) ≡ p + 1 + run_length (c ∷ cs) = omega arith in
    let head : begins_with_name_byte (without_comments false (c ∷ cs)) ≡ true = rw (stays c cs g.comment) e in
    let whole : split p (without_comments false (b ∷ c ∷ cs)) ≡ first p (b ∷ take (run_length (c ∷ cs)) (c ∷ cs)) (split (p + 1 + run_length (c ∷ cs)) (without_comments false (drop (run_length (c ∷ cs)) (c ∷ cs)))) =
    ap (split p) (stays b (c ∷ cs) f.comment) ∙ byte_on p b (without_comments false (c ∷ cs)) l head ∙ ap (λ (t : Text). record { words = onto_words p b t.words; stop = t.stop }) (ih refl) in
    let count : run_length (b ∷ c ∷ cs) ≡ suc (run_length (c ∷ cs)) = rw l more in
    rw (count, far) whole
run_more false p b c cs l e ih = one_word p b (c ∷ cs) l (no_name_byte (eqb c 35) c cs refl e) (rw e refl)

-- a run is a word
pub run : (p b : ℕ) (bs : List ℕ) → is_name_byte b ≡ true → Runs p (b ∷ bs)
run p b [] l = one_word p b [] l refl refl
run p b (c ∷ cs) l = run_more (is_name_byte c) p b c cs l refl (λ e. run (p + 1) c cs e)

-- a run that isn't too long is the first word
pub word : (p b : ℕ) (bs : List ℕ) → is_name_byte b ≡ true → run_length (b ∷ bs) ≤ LONGEST_NAME
    → words p (b ∷ bs) ≡ first p (take (run_length (b ∷ bs)) (b ∷ bs)) (words (p + run_length (b ∷ bs)) (drop (run_length (b ∷ bs)) (b ∷ bs)))
unfolding up_to_long words_in
word p b bs l short =
    let n : ℕ = run_length (b ∷ bs) in
    let test : ltb LONGEST_NAME (length (take (run_length (b ∷ bs)) (b ∷ bs))) ≡ false = le-ltb _ _ (omega (arith, length-take (run_length (b ∷ bs)) (b ∷ bs))) in
    ap (λ (t : Text). up_to_long t.words t.stop) (run p b bs l) ∙ rw test refl

-- a run that is too long ends the words
pub long_word : (p b : ℕ) (bs : List ℕ) → is_name_byte b ≡ true → LONGEST_NAME < run_length (b ∷ bs) → run_length (b ∷ bs) ≤ length (b ∷ bs) → words p (b ∷ bs) ≡ stopped (bad p)
unfolding up_to_long words_in
long_word p b bs l long fits =
    let test : ltb LONGEST_NAME (length (take (run_length (b ∷ bs)) (b ∷ bs))) ≡ true = lt-ltb _ _ (omega (arith, length-take (run_length (b ∷ bs)) (b ∷ bs))) in
    ap (λ (t : Text). up_to_long t.words t.stop) (run p b bs l) ∙ rw test refl

-- what is left of a text before its end is its next byte and what follows, so both have the same words
at_front : (v t : Bool) (text : List ℕ) (i : ℕ) (whole : Text) → i < length text → words_in v i (drop i text) ≡ whole → v ≡ t → words_in t i (get_or text i 0 ∷ drop (i + 1) text) ≡ whole
at_front v t text i whole lt so e = sym (ap (words_in t i) (drop_more text i 0 lt)) ∙ ap (λ (u : Bool). words_in u i (drop i text)) (sym e) ∙ so

-- a byte inside a comment can be skipped, and the comment ends if it is a line feed
leaves : (t : Bool) (b i : ℕ) (rest : List ℕ) (whole : Text) → eqb b 10 ≡ t → words_in true i (b ∷ rest) ≡ whole → words_in (not t) (i + 1) rest ≡ whole
leaves true b i rest whole e so = sym (closes i b rest e) ∙ so
leaves false b i rest whole e so = sym (inside i b rest e) ∙ so

-- how a lexer moves past a byte of a comment
pub moves_inside : (v w : Bool) (text : List ℕ) (i : ℕ) (whole : Text) → i < length text → words_in v i (drop i text) ≡ whole → v ≡ true → w ≡ not (eqb (get_or text i 0) 10) → words_in w (i + 1) (drop (i + 1) text) ≡ whole
moves_inside v w text i whole lt so e f =
    ap (λ (u : Bool). words_in u (i + 1) (drop (i + 1) text)) f ∙ leaves (eqb (get_or text i 0) 10) _ i _ whole refl (at_front v true text i whole lt so e)

-- how a lexer moves past the byte that begins a comment
pub moves_open : (v w : Bool) (text : List ℕ) (i : ℕ) (whole : Text) → i < length text → words_in v i (drop i text) ≡ whole → v ≡ false → get_or text i 0 ≡ 35 → w ≡ true → words_in w (i + 1) (drop (i + 1) text) ≡ whole
moves_open v w text i whole lt so e m f =
    ap (λ (u : Bool). words_in u (i + 1) (drop (i + 1) text)) f ∙ sym (opens i _ _ m) ∙ at_front v false text i whole lt so e

-- how a lexer moves past a blank
pub moves_blank : (v w : Bool) (text : List ℕ) (i : ℕ) (whole : Text) → i < length text → words_in v i (drop i text) ≡ whole → v ≡ false → get_or text i 0 ≢ 35 → is_blank (get_or text i 0) ≡ true → w ≡ v → words_in w (i + 1) (drop (i + 1) text) ≡ whole
moves_blank v w text i whole lt so e m b f =
    ap (λ (u : Bool). words_in u (i + 1) (drop (i + 1) text)) (f ∙ e) ∙ sym (blank i _ _ b (ne_eqb _ _ m)) ∙ at_front v false text i whole lt so e

-- if no byte is left, the text has ended
pub is_end : (p : ℕ) (rest : List ℕ) → rest ≡ [] → words p rest ≡ stopped (ended p)
is_end p rest e = rw e (at_end false p)

-- if the rest begins with a brace, the brace is the next word
pub is_brace_next : (p b : ℕ) (rest tail : List ℕ) → rest ≡ b ∷ tail → IsClear rest → is_brace b ≡ true → words p rest ≡ first p (take 1 rest) (words (p + 1) (drop 1 rest))
is_brace_next p b rest tail e clear h =
    let k : IsClear (b ∷ tail) = subst IsClear e clear in
    rw e (brace p b tail k.0 (ne_eqb _ _ k.1) h)

-- if the rest begins with neither a brace nor a word that isn't too long, its first byte is a bad place
bad_next : (t : Bool) (p b : ℕ) (tail : List ℕ) → is_name_byte b ≡ t → IsClear (b ∷ tail) → is_brace b ≡ false → (run_length (b ∷ tail) ≡ 0) ⊎ (LONGEST_NAME < run_length (b ∷ tail)) → run_length (b ∷ tail) ≤ length (b ∷ tail) → words p (b ∷ tail) ≡ stopped (bad p)
bad_next true p b tail l clear h long fits =
    elim long [ inl zero_long ↦ absurd (omega (arith, rw l at zero_long)) | inr more ↦ long_word p b tail l more fits ]
bad_next false p b tail l clear h long fits = other p b tail clear.0 (ne_eqb _ _ clear.1) h l

-- if the rest doesn't begin with a word, its first byte is a bad place
pub is_bad_next : (p b n : ℕ) (rest tail : List ℕ) → rest ≡ b ∷ tail → IsClear rest → is_brace b ≡ false → n ≡ run_length rest → n ≤ length rest → (n ≡ 0) ⊎ (LONGEST_NAME < n) → words p rest ≡ stopped (bad p)
is_bad_next p b n rest tail e clear h count fits long =
    let is : n ≡ run_length (b ∷ tail) = count ∙ ap run_length e in
    rw e (bad_next (is_name_byte b) p b tail refl (subst IsClear e clear) h (rw is at long) (subst (λ (r : List ℕ). run_length r ≤ length r) e (rw count at fits)))

-- a run that isn't empty begins with a name byte
starts : (t : Bool) (b : ℕ) (tail : List ℕ) → is_name_byte b ≡ t → 0 < run_length (b ∷ tail) → is_name_byte b ≡ true
starts true b tail e lt = e
starts false b tail e lt = absurd (omega (arith, rw e at lt))

-- if the rest begins with a run that isn't too long, the run is the next word
pub is_word_next : (p b n : ℕ) (rest tail : List ℕ) → rest ≡ b ∷ tail → n ≡ run_length rest → n ≢ 0 → n ≤ LONGEST_NAME → words p rest ≡ first p (take n rest) (words (p + n) (drop n rest))
is_word_next p b n rest tail e count some short =
    let is : n ≡ run_length (b ∷ tail) = count ∙ ap run_length e in
    let l : is_name_byte b ≡ true = starts (is_name_byte b) b tail refl (omega arith) in
    rw (is, e) (word p b tail l (omega arith))

-- the words of the rest, if a lexer looks at a place of the text
pub taken : (text : List ℕ) (from p n : ℕ) (rest word : List ℕ) → words p (drop p text) ≡ words from (drop from text) → rest ≡ drop p text → word ≡ take n rest
    → words p rest ≡ first p (take n rest) (words (p + n) (drop n rest)) → words from (drop from text) ≡ first p word (words (p + n) (drop (p + n) text))
taken text from p n rest word same is cut next =
    let far : drop n rest ≡ drop (p + n) text = ap (drop n) is ∙ drop-drop n p text in
    sym same ∙ ap (words p) (sym is) ∙ next ∙ ap (λ (w : List ℕ). first p w (words (p + n) (drop n rest))) (sym cut) ∙ ap (λ (r : List ℕ). first p word (words (p + n) r)) far

-- a lexer returns a brace as the next word
pub next_brace : (p : ℕ) (rest : List ℕ) → 1 ≤ length rest → IsClear rest → is_brace (get_or rest 0 0) ≡ true → words p rest ≡ first p (take 1 rest) (words (p + 1) (drop 1 rest))
next_brace p [] some clear h = absurd (omega arith)
next_brace p (b ∷ tail) some clear h = is_brace_next p b (b ∷ tail) tail refl clear h

-- a lexer returns a run that isn't too long as the next word
pub next_word : (p n : ℕ) (rest : List ℕ) → 1 ≤ length rest → n ≡ run_length rest → n ≢ 0 → n ≤ LONGEST_NAME → words p rest ≡ first p (take n rest) (words (p + n) (drop n rest))
next_word p n [] some count nz short = absurd (omega arith)
next_word p n (b ∷ tail) some count nz short = is_word_next p b n (b ∷ tail) tail refl count nz short

-- a lexer returns a bad place if the next byte is one that no text may have
pub next_bad : (text : List ℕ) (from p n : ℕ) (rest : List ℕ) → words p (drop p text) ≡ words from (drop from text) → rest ≡ drop p text → 1 ≤ length rest → IsClear rest → is_brace (get_or rest 0 0) ≡ false → n ≡ run_length rest → n ≤ length rest → (n ≡ 0) ⊎ (LONGEST_NAME < n) → words from (drop from text) ≡ stopped (bad p)
next_bad text from p n [] same is some clear h count fits long = absurd (omega arith)
next_bad text from p n (b ∷ tail) same is some clear h count fits long = sym same ∙ ap (words p) (sym is) ∙ is_bad_next p b n (b ∷ tail) tail refl clear h count fits long

-- a lexer returns the end if no byte is left
pub next_end : (text : List ℕ) (from p : ℕ) (rest : List ℕ) → words p (drop p text) ≡ words from (drop from text) → rest ≡ drop p text → length rest < 1 → words from (drop from text) ≡ stopped (ended p)
next_end text from p [] same is none = sym same ∙ ap (words p) (sym is) ∙ at_end false p
next_end text from p (b ∷ tail) same is none = absurd (omega arith)

-- at the end of the text it doesn't matter whether a comment is open
pub skipped : (v : Bool) (text : List ℕ) (i : ℕ) (whole : Text) → length text ≤ i → words_in v i (drop i text) ≡ whole → words i (drop i text) ≡ whole
skipped v text i whole le so = rw (drop_all i text le) (at_end false i ∙ sym (at_end v i) ∙ ap (words_in v i) (sym (drop_all i text le)) ∙ so)
