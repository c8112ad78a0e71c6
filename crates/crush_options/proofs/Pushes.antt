-- Words that are appended one after the other.
use Rattle.std.proofs.Common.{◌≡◌, ◌∙◌, ◌++◌, List, ap, append_assoc}
use Rattle.clap.specs.Words.{Text}

-- if the words w are appended to s, and then the words r are appended, the result is s, followed by w and r
pub then_pushed : (s t u w r : List Text) → t ≡ s ++ w → u ≡ t ++ r → u ≡ s ++ (w ++ r)
then_pushed s t u w r first rest = rest ∙ ap (λ (z : List Text). z ++ r) first ∙ append_assoc s w r
