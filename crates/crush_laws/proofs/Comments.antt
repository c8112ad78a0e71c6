-- Proves that comment lines have no words, and that several comment lines one after the other are comment lines.
use Rattle.std.proofs.Common.{◌≡◌, ℕ, ◌+◌, Bool, true, false, not, ◌==◌, List, [], ◌∷◌, ◌++◌, refl, ap, sym, ◌∙◌, rules, tests}
use Rattle.std.proofs.lemmas.Bool.{and_parts}
use Rattle.std.specs.List.{list_all}
use Rattle.crush_units.specs.Words.{Text, texts, ended, stopped, words_in}
use Rattle.crush_units.proofs.Printed.{Holds}
use Rattle.crush_units.proofs.Split.{opens, inside, closes, at_end}
use Rattle.crush_laws.specs.ReadingBack.{are_comments, AreCommentLines}

-- bytes that are comment lines have no words, at whatever place they begin
no_words : (begun : Bool) (bytes : List ℕ) (p : ℕ) → are_comments begun bytes ≡ true → (q : ℕ) × (words_in begun p bytes ≡ stopped (ended q))
no_words begun [] p h = (p, at_end begun p)
no_words false (b ∷ bs) p h =
    let k = and_parts (b == 35) (are_comments true bs) h in
    let mark : b ≡ 35 = search (rules, tests) in
    let more = no_words true bs (p + 1) k.1 in
    (more.0, opens p b bs mark ∙ more.1)
no_words true (b ∷ bs) p h = by_test (b == 10) refl (no_words (not (b == 10)) bs (p + 1) h)
  where
    by_test : (t : Bool) → (b == 10) ≡ t → (q : ℕ) × (words_in (not (b == 10)) (p + 1) bs ≡ stopped (ended q)) → (q : ℕ) × (words_in true p (b ∷ bs) ≡ stopped (ended q))
    by_test true e more = (more.0, closes p b bs e ∙ ap (λ (t : Bool). words_in (not t) (p + 1) bs) (sym e) ∙ more.1)
    by_test false e more = (more.0, inside p b bs e ∙ ap (λ (t : Bool). words_in (not t) (p + 1) bs) (sym e) ∙ more.1)

pub comment_lines-hold : (bytes : List ℕ) → AreCommentLines bytes → Holds bytes []
comment_lines-hold bytes h = record {
  texts_are = λ p. ap (λ (t : Text). texts t.words) (no_words false bytes p h).1;
  ends = λ p. ((no_words false bytes p h).0, ap (λ (t : Text). t.stop) (no_words false bytes p h).1);
}

-- bytes without a line feed within a comment line don't change whether the bytes are comment lines
pub within : (part rest : List ℕ) → list_all (λ b. not (b == 10)) part ≡ true → are_comments true (part ++ rest) ≡ are_comments true rest
within [] rest h = refl
within (b ∷ part) rest h =
    let k = and_parts (not (b == 10)) (list_all (λ x. not (x == 10)) part) h in
    ap (λ (t : Bool). are_comments t (part ++ rest)) k.0 ∙ within part rest k.1
