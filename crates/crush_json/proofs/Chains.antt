-- Parts that are appended one after the other.
use Rattle.std.proofs.Common.{◌≡◌, Result, Ok, Err, List, ◌++◌, ap, ◌∙◌, append_assoc}
use Rattle.std.specs.Prelude.{OnOk}

-- one part, followed by a part whose writing may fail
pub then : {X Y E : Type 0} (r : Result Y E) (old mid new a b : List X) → mid ≡ old ++ a → OnOk r (new ≡ mid ++ b) → OnOk r (new ≡ old ++ (a ++ b))
then (Ok y) old mid new a b first second = second ∙ ap (λ l. l ++ b) first ∙ append_assoc old a b
then (Err e) old mid new a b first second = tt

-- the same part, given by an equal list
pub as_told : {X Y E : Type 0} (r : Result Y E) (old new a b : List X) → OnOk r (new ≡ old ++ a) → a ≡ b → OnOk r (new ≡ old ++ b)
as_told (Ok y) old new a b done same = done ∙ ap (λ l. old ++ l) same
as_told (Err e) old new a b done same = tt

-- two members, three members, and the token that ends the object
pub five : {X : Type 0} (a b c d e f : List X) → (a ++ b) ++ (((c ++ d) ++ e) ++ f) ≡ a ++ (b ++ (c ++ (d ++ (e ++ f))))
five a b c d e f = simp append_assoc
