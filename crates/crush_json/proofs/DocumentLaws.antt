-- The tokens of a whole document.
use Rattle.std.proofs.Common.{◌≡◌, Result, Ok, Err, List, [], ◌∷◌, ◌++◌, Option, Some, None, refl, sym, ap, ◌∙◌, append_assoc}
use Rattle.std.specs.Prelude.{ℕ, OnOk}
use Rattle.json.specs.Token.{Token, begin_object, end_object, key}
use Rattle.json.specs.Tree.{members_tokens}
use Rattle.serde_json.specs.Data.{Data, Members, member, no_members}
use Rattle.serde_json.specs.Written.{members_outline}
use Rattle.crush_json.specs.Document.{document_of, with_history}
use Rattle.crush_json.specs.Tokens.{history_tokens_if, tokens_of}

-- if there is a history, its tokens come before those of the other members
history_before : (h : Option Data) (ms : Members) → members_tokens (members_outline (with_history h ms)) ≡ history_tokens_if h ++ members_tokens (members_outline ms)
history_before None ms = refl
history_before (Some h) ms = refl

-- the tokens of a document: the opening brace, the history, the value, and the closing brace
told : (name : List ℕ) (h : Option Data) (d : Data) → (begin_object ∷ (history_tokens_if h ++ key name ∷ [])) ++ (tokens_of d ++ end_object ∷ []) ≡ tokens_of (document_of name h d)
told name h d =
    ap (λ (l : List Token). begin_object ∷ l)
    (append_assoc (history_tokens_if h) (key name ∷ []) (tokens_of d ++ end_object ∷ []) ∙ sym (history_before h (member name d no_members)))

pub document_done : {Y E : Type 0} (name : List ℕ) (h : Option Data) (d : Data) (r : Result Y E) (old one two three : List Token)
    → one ≡ old ++ (begin_object ∷ (history_tokens_if h ++ key name ∷ [])) → two ≡ one ++ tokens_of d → OnOk r (three ≡ two ++ end_object ∷ []) → OnOk r (three ≡ old ++ tokens_of (document_of name h d))
document_done name h d (Ok y) old one two three a b c =
    let opens : List Token = begin_object ∷ (history_tokens_if h ++ key name ∷ []) in
    c ∙ ap (λ (l : List Token). l ++ end_object ∷ []) (b ∙ ap (λ (l : List Token). l ++ tokens_of d) a) ∙ append_assoc (old ++ opens) (tokens_of d) (end_object ∷ [])
    ∙ append_assoc old opens (tokens_of d ++ end_object ∷ []) ∙ ap (λ (l : List Token). old ++ l) (told name h d)
document_done name h d (Err e) old one two three a b c = tt
