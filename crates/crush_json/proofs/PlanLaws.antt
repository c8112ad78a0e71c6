-- The tokens of a plan.
use Rattle.std.proofs.Common.{◌≡◌, ℕ, Result, Ok, Err, List, [], ◌∷◌, ◌++◌, length, Option, Some, None, map, refl, sym, ap, ◌∙◌, append_assoc, length-append, arith, ◌<◌}
use Rattle.std.specs.Prelude.{OnOk, codes, flat_map}
use Rattle.json.specs.Json as json
use Rattle.json.specs.Print.{print}
use Rattle.json.specs.Token.{Token, begin_object, end_object, begin_array, end_array, key}
use Rattle.json.specs.Tree.{json_tokens, items_tokens, members_tokens}
use Rattle.serde_json.specs.Data.{Data}
use Rattle.crush_edits.specs.declared.edit.Edit.{Edit}
use Rattle.crush_json.specs.PlanDocument.{all_of, aside_document, behind_history, command, plan_document, plan_document_text, stays_document, told}
use Rattle.crush_json.specs.Tokens.{history_tokens_if, member_tokens, tokens_of}

-- the tokens of the commands of edits, and the closing bracket
commands_listed : (es : List Edit) → items_tokens (all_of (map command es)) ≡ flat_map (λ e. json_tokens (command e)) es ++ end_array ∷ []
commands_listed [] = refl
commands_listed (e ∷ es) =
    ap (λ (l : List Token). json_tokens (command e) ++ l) (commands_listed es) ∙ sym (append_assoc (json_tokens (command e)) (flat_map (λ e. json_tokens (command e)) es) (end_array ∷ []))

regroup : (old m : List Token) → ((old ++ begin_array ∷ []) ++ m) ++ end_array ∷ [] ≡ old ++ (begin_array ∷ (m ++ end_array ∷ []))
regroup old m = simp append_assoc

pub commands_done : {Y E : Type 0} (es : List Edit) (r : Result Y E) (old one two three : List Token) → one ≡ old ++ begin_array ∷ [] → two ≡ one ++ flat_map (λ e. json_tokens (command e)) es
    → OnOk r (three ≡ two ++ end_array ∷ []) → OnOk r (three ≡ old ++ json_tokens (json.array (all_of (map command es))))
commands_done es (Ok y) old one two three a b c =
    c ∙ ap (λ (l : List Token). l ++ end_array ∷ []) (b ∙ ap (λ (l : List Token). l ++ flat_map (λ e. json_tokens (command e)) es) a)
    ∙ regroup old (flat_map (λ e. json_tokens (command e)) es) ∙ ap (λ (l : List Token). old ++ (begin_array ∷ l)) (sym (commands_listed es))
commands_done es (Err e) old one two three a b c = tt

-- if there is a history, its tokens come before those of the other members
history_before : (h : Option Data) (ms : json.Members) → members_tokens (behind_history h ms) ≡ history_tokens_if h ++ members_tokens ms
history_before None ms = refl
history_before (Some h) ms = refl

-- the tokens of the whole document
pub plan_told : (h : Option Data) (edits : List Edit) (rest : List (List ℕ)) (ids class_ids : ℕ)
    → begin_object ∷ (member_tokens (codes "aside") (aside_document ids class_ids) ++ (history_tokens_if h ++ (key (codes "plan") ∷ (json_tokens (json.array (all_of (map command edits)))
    ++ (key (codes "stays") ∷ (tokens_of (stays_document rest) ++ end_object ∷ []))))))
    ≡ json_tokens (plan_document h edits rest ids class_ids)
unfolding plan_document
plan_told h edits rest ids class_ids =
    ap (λ (l : List Token). begin_object ∷ (member_tokens (codes "aside") (aside_document ids class_ids) ++ l))
    (sym (history_before h (json.member (codes "plan") (json.array (all_of (map command edits))) (told (codes "stays") (stays_document rest) json.no_members))))

-- the text of the document isn't empty
pub some_plan_text : (j : json.Json) → 0 < length (plan_document_text j)
unfolding plan_document_text
some_plan_text j = omega (arith, length-append (print (json_tokens j)) (codes "\n"))

-- the text of the document is the text that is printed for its tokens, and a line feed
pub plan_written : (j : json.Json) (text : List ℕ) (start tokens : List Token) → start ≡ [] → tokens ≡ start ++ json_tokens j → text ≡ print tokens ++ codes "\n" → text ≡ plan_document_text j
unfolding plan_document_text
plan_written j text start tokens none are is = is ∙ ap (λ (l : List Token). print l ++ codes "\n") (are ∙ ap (λ (l : List Token). l ++ json_tokens j) none)
