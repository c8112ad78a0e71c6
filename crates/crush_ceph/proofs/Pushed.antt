-- Parts that are appended one after the other.
use Rattle.std.proofs.Common.{◌≡◌, List, ◌++◌, ap, ◌∙◌, append_assoc}

pub two_pushed : {X : Type 0} (old a b one two : List X) → one ≡ old ++ a → two ≡ one ++ b → two ≡ old ++ (a ++ b)
two_pushed old a b one two e f = f ∙ ap (λ l. l ++ b) e ∙ append_assoc old a b

pub four_pushed : {X : Type 0} (old a b c d one two three four : List X) → one ≡ old ++ a → two ≡ one ++ b → three ≡ two ++ c → four ≡ three ++ d → four ≡ old ++ (a ++ (b ++ (c ++ d)))
four_pushed old a b c d one two three four e f g h =
    two_pushed old a (b ++ (c ++ d)) one four e (two_pushed one b (c ++ d) two four f (two_pushed two c d three four g h))
