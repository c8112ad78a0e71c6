use Rattle.std.proofs.Common.{◌++◌, [], ◌∷◌, ap, append_assoc, sym, take, ◌∙◌}
use Rattle.std.proofs.lemmas.List.{take_more}
use Rattle.crush_reasons.proofs.ceph.push_copies.Goals as goal

pub loop-edit-preserved : goal.loop-edit-preserved
loop-edit-preserved c =
    let es = c.args.edits.now in
    let i = c.loop-edit.edit-index in
    let x = c.edit-item.result in
    let before = c.args.copies.now.items in
    c.in_ok-push.ensures.items ∙ (λ k. c.loop-edit.invariant k ++ c.in_ok-copy.ensures k ∷ [])
    ∙ append_assoc before (take i es) (x ∷ [])
    ∙ ap (λ l. before ++ l) (sym (take_more es i x c.loop-edit-test.true ∙ ap (λ y. take i es ++ y ∷ []) (sym c.edit-item.is)))
