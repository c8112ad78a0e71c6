use Rattle.std.proofs.Common.{◌≡◌, [], ◌∷◌, ◌++◌, sym, subst, ◌∙◌}
use Rattle.std.proofs.lemmas.List.{take_more, take_all}
use Rattle.crush_edits.specs.Pushed.{IsLocation}
use Rattle.crush_edits.proofs.location.Location.try_copy.Goals as goal

pub loop-pair-preserved : goal.loop-pair-preserved
loop-pair-preserved c =
    let items = c.deref-pair-items.result.now in
    let one : c.in_ok-pair.pair ≡ c.pair-item.result = c.in_ok-pair.ensures in
    c.in_ok-push.ensures.items
    ∙ (λ k. c.loop-pair.invariant k ++ (one ∙ c.pair-item.is) k ∷ [])
    ∙ sym (take_more items c.loop-pair.pair-index c.pair-item.result c.loop-pair-test.true)

pub returns : goal.returns
returns c =
    c.loop-pair.invariant ∙ take_all c.loop-pair.pair-index c.deref-pair-items.result.now c.loop-pair-test.false
    ∙ c.deref-pair-items.ensures.value ∙ c.self.view_is

pub invariant_of-result : goal.invariant_of-result
invariant_of-result c =
    subst IsLocation (sym (c.loop-pair.invariant ∙ take_all c.loop-pair.pair-index c.deref-pair-items.result.now c.loop-pair-test.false ∙ c.deref-pair-items.ensures.value)) c.self.invariant
