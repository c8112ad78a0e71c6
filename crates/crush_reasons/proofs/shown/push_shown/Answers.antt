use Rattle.std.proofs.Common.{◌++◌, ◌∷◌, [], List, ℕ, ◌∙◌, ap, append_assoc, get_or, map, sym, take}
use Rattle.std.proofs.lemmas.List.{map_push, take_more}
use Rattle.crush_reasons.specs.Shown.{shown_byte}
use Rattle.crush_reasons.proofs.shown.push_shown.Goals as goal

pub loop-byte-preserved : goal.loop-byte-preserved
loop-byte-preserved c =
    let bytes = c.args.bytes.now in
    let i = c.loop-byte.byte-index in
    let old = c.args.text.now.items in
    c.in-Ok.ensures.items
    ∙ ap (λ (l : List ℕ). l ++ c.shown_byte.result ∷ []) c.loop-byte.invariant
    ∙ append_assoc old (map shown_byte (take i bytes)) (c.shown_byte.result ∷ [])
    ∙ ap (λ b. old ++ (map shown_byte (take i bytes) ++ b ∷ [])) c.shown_byte.ensures
    ∙ ap (λ (l : List ℕ). old ++ l) (sym (map_push shown_byte (take i bytes) (get_or bytes i 0)) ∙ ap (map shown_byte) (sym (take_more bytes i 0 c.loop-byte-test.true)))
