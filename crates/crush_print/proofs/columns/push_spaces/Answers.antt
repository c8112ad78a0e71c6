use Rattle.std.proofs.Common.{◌++◌, ◌∷◌, [], List, ℕ, ◌∙◌, ap, append_assoc}
use Rattle.std.proofs.lemmas.List.{replicate_more}
use Rattle.crush_print.specs.TreeText.{spaces}
use Rattle.crush_print.proofs.columns.push_spaces.Goals as goal

pub loop-done-preserved : goal.loop-done-preserved
loop-done-preserved c =
    let old = c.args.out.now.items in
    let n = c.loop-done._done in
    c.in-Ok.ensures.items ∙ ap (λ (l : List ℕ). l ++ 32 ∷ []) c.loop-done.invariant ∙ append_assoc old (spaces n) (32 ∷ []) ∙ ap (λ (l : List ℕ). old ++ l) (replicate_more n 32)
