use Rattle.std.proofs.Common.{◌++◌, ◌∷◌, [], List, ℕ, ◌∙◌, ap, append_assoc}
use Rattle.std.proofs.lemmas.List.{replicate_more}
use Rattle.std.specs.Prelude.{replicate}
use Rattle.crush_reasons.proofs.place.push_spaces.Goals as goal

pub loop-done-preserved : goal.loop-done-preserved
loop-done-preserved c =
    let old = c.args.text.now.items in
    let n = c.loop-done._done in
    c.in-Ok.ensures.items ∙ ap (λ (l : List ℕ). l ++ 32 ∷ []) c.loop-done.invariant ∙ append_assoc old (replicate n 32) (32 ∷ []) ∙ ap (λ (l : List ℕ). old ++ l) (replicate_more n 32)
