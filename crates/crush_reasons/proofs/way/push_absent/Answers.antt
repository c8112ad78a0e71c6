use Rattle.std.proofs.Common.{◌++◌, ◌∙◌, ap, codes}
use Rattle.std.proofs.lemmas.Result.{on_ok_weaker}
use Rattle.crush_reasons.specs.Near.{near_if}
use Rattle.crush_reasons.specs.Way.{asked_reason}
use Rattle.crush_reasons.proofs.way.push_absent.Goals as goal

pub returns : goal.returns
returns c =
    on_ok_weaker c.push_asked.result (λ e t st.
    let near = c.in_ok-near.ensures t st ∙ ap (near_if c.args.looks t) c.as_str.ensures.value in
    e ∙ (λ i. c.args.text.now.items ++ asked_reason (c.as_bytes.ensures.value i) (codes " doesn't exist") (near i))) c.push_asked.ensures
