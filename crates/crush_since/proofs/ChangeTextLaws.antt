-- Lemmas about the text of the tree that shows what has changed: the brackets around notes, and rows that are appended to rows.
use Rattle.std.proofs.Common.{◌≡◌, ℕ, ◌<◌, List, [], ◌∷◌, ◌++◌, length, drop, ap, ◌∙◌, refl, arith, append_assoc, Result, Ok, Err}
use Rattle.std.specs.Prelude.{OnOk}
use Rattle.crush_since.specs.ChangeText.{brackets, brackets_text}
use Rattle.crush_since.specs.ItemParts.{behind}

-- if there are no notes, there are no brackets
pub no_brackets : (ps : List (List ℕ)) → length (behind ps) ≡ 0 → brackets ps ≡ []
no_brackets [] none = refl
no_brackets (p ∷ rest) none = absurd (omega (arith, none))

-- if there are notes, they are in brackets
pub some_brackets : (ps : List (List ℕ)) → 0 < length (behind ps) → brackets ps ≡ brackets_text (drop 2 (behind ps))
some_brackets [] some = absurd (omega (arith, some))
some_brackets (p ∷ rest) some = refl

-- two calls append rows one after the other, and the second call may fail
pub both_pushed : {X E Z : Type 0} (r : Result X E) (old one new first rows second : List Z) → one ≡ old ++ first → first ≡ rows → OnOk r (new ≡ one ++ second) → OnOk r (new ≡ old ++ (rows ++ second))
both_pushed (Ok x) old one new first rows second begun are ended = ended ∙ ap (λ l. l ++ second) (begun ∙ ap (λ l. old ++ l) are) ∙ append_assoc old rows second
both_pushed (Err e) old one new first rows second begun are ended = tt
