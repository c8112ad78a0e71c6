use Rattle.std.proofs.Common.{[], ◌∷◌, ◌++◌, ap, sym, ◌∙◌}
use Rattle.std.proofs.lemmas.List.{map_push, take_more, take_all}
use Rattle.crush_since.specs.Stays.{line_texts}
use Rattle.crush_plan.proofs.plan.copy_lines.Goals as goal

pub loop-line-preserved : goal.loop-line-preserved
loop-line-preserved c =
    ap line_texts c.in_ok-push.ensures.items ∙ map_push (λ line. line.items) _ _
    ∙ (λ k. c.loop-line.invariant k ++ (c.in_ok-copy.ensures.items ∙ c.as_slice.ensures.value ∙ ap (λ line. line.items) c.line-item.is) k ∷ [])
    ∙ sym (ap line_texts (take_more _ c.loop-line.line-index c.line-item.result c.loop-line-test.true) ∙ map_push (λ line. line.items) _ _)

pub returns : goal.returns
returns c = c.loop-line.invariant ∙ ap line_texts (take_all c.loop-line.line-index c.args.lines.now c.loop-line-test.false)
