-- The text of a document.
use Rattle.std.proofs.Common.{◌≡◌, ℕ, ◌<◌, List, [], ◌++◌, length, ap, ◌∙◌, arith, length-append}
use Rattle.std.specs.Prelude.{codes}
use Rattle.json.specs.Print.{print}
use Rattle.json.specs.Token.{Token}
use Rattle.serde_json.specs.Data.{Data}
use Rattle.serde_json.specs.Written.{compact_text}
use Rattle.crush_json.specs.Document.{document_text}
use Rattle.crush_json.specs.Tokens.{tokens_of}
use Rattle.crush_json.proofs.Listed.{printed}

-- the text of a document isn't empty
pub some_text : (d : Data) → 0 < length (document_text d)
unfolding document_text
some_text d = omega (arith, length-append (compact_text d) (codes "\n"))

-- the text of a document is the text that is printed for its tokens, and a line feed
pub line_written : (d : Data) (text : List ℕ) (start tokens : List Token) → start ≡ [] → tokens ≡ start ++ tokens_of d → text ≡ print tokens ++ codes "\n" → text ≡ document_text d
unfolding document_text
line_written d text start tokens none are is =
    is ∙ ap (λ (l : List Token). print l ++ codes "\n") (are ∙ ap (λ (l : List Token). l ++ tokens_of d) none) ∙ ap (λ (l : List ℕ). l ++ codes "\n") (printed d)
