-- The last part that begins at a line or before it.
use Rattle.std.proofs.Common.{◌≡◌, ℕ, ◌<◌, ◌≤◌, ◌+◌, List, ◌∷◌, length, drop, get_or, map, cond, nat_le, sym, ap, ◌∙◌}
use Rattle.std.proofs.lemmas.List.{drop_all, drop_more}
use Rattle.crush_reasons.specs.Place.{OriginData}
use Rattle.crush_input.specs.declared.joined.ScriptSpan.{ScriptSpan}
use Rattle.crush_input.specs.Joined.{script_span_data}
use Rattle.crush_input.specs.Origins.{origin_in, within}

-- looking at one more part
pub next_origin : (found : OriginData) (spans : List ScriptSpan) (i line : ℕ) (x : ScriptSpan) → i < length spans → x ≡ get_or spans i x
    → origin_in found (map script_span_data (drop i spans)) line ≡ origin_in (cond (nat_le x.from line) (within (script_span_data x)) found) (map script_span_data (drop (i + 1) spans)) line
next_origin found spans i line x less is =
    let here : drop i spans ≡ x ∷ drop (i + 1) spans = drop_more spans i x less ∙ ap (λ (y : ScriptSpan). y ∷ drop (i + 1) spans) (sym is) in
    ap (λ (ps : List ScriptSpan). origin_in found (map script_span_data ps) line) here

-- after the last part, there are no more parts to look at
pub last_origin : (found : OriginData) (spans : List ScriptSpan) (i line : ℕ) → length spans ≤ i → origin_in found (map script_span_data (drop i spans)) line ≡ found
last_origin found spans i line past = ap (λ (ps : List ScriptSpan). origin_in found (map script_span_data ps) line) (drop_all i spans past)
