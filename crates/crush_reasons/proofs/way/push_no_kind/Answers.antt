use Rattle.std.proofs.Common.{◌++◌, ◌∙◌, ap, codes}
use Rattle.std.proofs.lemmas.Result.{on_ok_weaker}
use Rattle.crush_reasons.specs.Near.{near_kind_if}
use Rattle.crush_reasons.specs.Way.{asked_reason}
use Rattle.crush_reasons.proofs.way.push_no_kind.Goals as goal

pub returns : goal.returns
returns c =
    let near = c.near_kind_if-near.ensures ∙ (λ i. near_kind_if c.args.looks (c.setting.ensures i) (c.as_str.ensures.value i)) in
    on_ok_weaker c.push_asked.result (λ e. e ∙ (λ i. c.args.text.now.items ++ asked_reason (c.as_bytes.ensures.value i) (codes " is not a type of the map") (near i))) c.push_asked.ensures
