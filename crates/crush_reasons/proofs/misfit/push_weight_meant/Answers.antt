use Rattle.std.proofs.Common.{[], ◌++◌, sym, ◌∙◌}
use Rattle.std.proofs.lemmas.Result.{on_ok_weaker}
use Rattle.crush_reasons.proofs.misfit.push_weight_meant.Goals as goal

pub returns-then-is_weight : goal.returns-then-is_weight
returns-then-is_weight c =
    rw (sym c.is_weight.ensures ∙ c.if-is_weight.true) (on_ok_weaker c.push_all.result (λ e. e ∙ (λ i. c.args.text.now.items ++ (c.as_slice.ensures i ++ (c.args.word.now ++ (c.as_slice-then-is_weight.ensures i ++ []))))) c.push_all.ensures)

pub returns-then-has_unit : goal.returns-then-has_unit
returns-then-has_unit c = rw (sym c.is_weight.ensures ∙ c.if-is_weight.false, sym c.is_mistyped.ensures ∙ c.if-is_mistyped.false, sym c.has_unit.ensures ∙ c.if-has_unit.true) c.push_bytes.ensures

pub returns : goal.returns
returns c = rw (sym c.is_weight.ensures ∙ c.if-is_weight.false, sym c.is_mistyped.ensures ∙ c.if-is_mistyped.false, sym c.has_unit.ensures ∙ c.if-has_unit.false) c.push_bytes-2.ensures
