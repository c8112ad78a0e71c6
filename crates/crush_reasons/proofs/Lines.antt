-- The rest of a text from a line on, for one line more; and parts that are appended one after the other.
use Rattle.std.proofs.Common.{◌≡◌, ℕ, ◌+◌, ◌<◌, ◌==◌, Bool, true, false, not, suc, List, [], ◌∷◌, ◌++◌, length, take, get_or, refl, ap, ◌∙◌, append_assoc, arith}
use Rattle.std.proofs.lemmas.List.{reverse-append, take_more}
use Rattle.std.specs.Prelude.{if◌then◌else◌, reverse}
use Rattle.crush_reasons.specs.Place.{behind_feed, behind_line, from_line, to_feed}

pub from_first : (bytes : List ℕ) → bytes ≡ from_line 0 bytes
unfolding from_line
from_first bytes = refl

pub from_next : (n : ℕ) (bytes : List ℕ) → behind_line (from_line n bytes) ≡ from_line (n + 1) bytes
unfolding from_line
from_next n bytes = let e : suc n ≡ n + 1 = omega arith in ap (λ m. from_line m bytes) e

pub two_pushed : (old a b one two : List ℕ) → one ≡ old ++ a → two ≡ one ++ b → two ≡ old ++ (a ++ b)
two_pushed old a b one two e f = f ∙ ap (λ (l : List ℕ). l ++ b) e ∙ append_assoc old a b

pub then_pushed : (old a b whole one two : List ℕ) → one ≡ old ++ a → two ≡ one ++ b → b ≡ whole → two ≡ old ++ (a ++ whole)
then_pushed old a b whole one two e f g = two_pushed old a whole one two e (f ∙ ap (λ (l : List ℕ). one ++ l) g)

pub three_pushed : (old a b c one two three : List ℕ) → one ≡ old ++ a → two ≡ one ++ b → three ≡ two ++ c → three ≡ old ++ (a ++ b ++ c)
three_pushed old a b c one two three e f g = g ∙ ap (λ (l : List ℕ). l ++ c) (two_pushed old a b one two e f) ∙ append_assoc old (a ++ b) c

-- how many bytes come after the last line feed, for one byte more
pub feed-take : (bytes : List ℕ) (i : ℕ) → i < length bytes
    → behind_feed (take (i + 1) bytes) ≡ (if get_or bytes i 0 == 10 then 0 else behind_feed (take i bytes) + 1)
feed-take bytes i lt =
    ap behind_feed (take_more bytes i 0 lt)
    ∙ ap to_feed (reverse-append (take i bytes) (get_or bytes i 0 ∷ []))
    ∙ first (get_or bytes i 0 == 10) (reverse (take i bytes))
  where
    first : (is_feed : Bool) (rest : List ℕ) → (if not is_feed then 1 + to_feed rest else 0) ≡ (if is_feed then 0 else to_feed rest + 1)
    first true rest = refl
    first false rest = omega arith
