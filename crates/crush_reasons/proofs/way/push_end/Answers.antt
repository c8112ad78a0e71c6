use Rattle.std.proofs.Common.{◌++◌, ◌∙◌}
use Rattle.std.proofs.lemmas.Result.{on_ok_weaker}
use Rattle.crush_reasons.specs.Way.{types_reason}
use Rattle.crush_reasons.proofs.way.push_end.Goals as goal

pub returns : goal.returns
returns c =
    on_ok_weaker c.push_types.result (λ e t st. e ∙ (λ i. c.args.text.now.items ++ types_reason (c.as_bytes.ensures.value i) (c.type_of_item.ensures t st i) (c.type_of_pair.ensures i))) c.push_types.ensures
