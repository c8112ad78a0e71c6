use Rattle.std.proofs.Common.{◌++◌, [], ◌∷◌, ap, sym, ◌∙◌, take}
use Rattle.std.proofs.lemmas.List.{take_more, take_all}
use Rattle.crush_history.proofs.script.copy_calls.Goals as goal

pub loop-call-preserved : goal.loop-call-preserved
loop-call-preserved c =
    let cs = c.args.calls.now in
    let i = c.loop-call.call-index in
    let x = c.call-item.result in
    c.in_ok-push.ensures.items ∙ (λ k. c.loop-call.invariant k ++ c.in_ok-copy.ensures k ∷ [])
    ∙ sym (take_more cs i x c.loop-call-test.true ∙ ap (λ y. take i cs ++ y ∷ []) (sym c.call-item.is))

pub returns : goal.returns
returns c = c.loop-call.invariant ∙ take_all c.loop-call.call-index c.args.calls.now c.loop-call-test.false
