use Rattle.std.proofs.Common.{rules, ap, sym, subst, ◌∙◌}
use Rattle.std.proofs.lemmas.List.Sorted.{answers_always}
use Rattle.std.specs.Prelude.{Some}
use Rattle.crush_reasons.specs.Sums.{AreSums}
use Rattle.crush_reasons.specs.declared.sums.Sum.{Sum}
use Rattle.crush_reasons.proofs.SumLaws.{found_here, found_nowhere}
use Rattle.crush_reasons.proofs.sums.SummedMap.sum_of.Goals as goal

pub returns-in-Ok : goal.returns-in-Ok
returns-in-Ok c = λ t summed.
    let by_key = c.in-Ok.ensures.position (λ (s : Sum). s.bucket) (answers_always _ _ _ (λ f a r q called. search rules)) in
    sym (ap (λ (s : Sum). Some s.weight) c.index-sums-at.is)
    ∙ found_here t c.as_slice-sums.result.now c.args.bucket c.distance.result c.in-Ok.at c.index-sums-at.result (subst (AreSums t) (sym c.as_slice-sums.ensures.value) summed.sums) c.distance.ensures.value c.in-Ok.ensures.bound c.index-sums-at.is by_key

pub returns-in-Err : goal.returns-in-Err
returns-in-Err c = λ t summed.
    let by_key = c.in-Err.ensures.position (λ (s : Sum). s.bucket) (answers_always _ _ _ (λ f a r q called. search rules)) in
    found_nowhere t c.as_slice-sums.result.now c.args.bucket c.distance.result c.in-Err.field-0 (subst (AreSums t) (sym c.as_slice-sums.ensures.value) summed.sums) c.distance.ensures.value by_key
