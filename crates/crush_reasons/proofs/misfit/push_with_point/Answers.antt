use Rattle.std.proofs.Common.{[], ◌++◌, ap, ◌∙◌}
use Rattle.std.proofs.lemmas.Result.{on_ok_weaker}
use Rattle.crush_reasons.specs.Misfit.{front_of, with_point}
use Rattle.crush_reasons.proofs.misfit.push_with_point.Goals as goal

pub returns : goal.returns
unfolding with_point
returns c =
    let front = c.front_of-whole.ensures ∙ ap front_of c.whole_of.ensures in
    on_ok_weaker c.push_all.result (λ e. e ∙ (λ i. c.args.text.now.items ++ (c.as_slice.ensures i ++ (front i ++ (c.as_slice-2.ensures i ++ (c.parts_of-parts.ensures i ++ (c.as_slice-3.ensures i ++ []))))))) c.push_all.ensures
