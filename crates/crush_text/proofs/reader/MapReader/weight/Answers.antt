-- Reading the weight of an item.
use Rattle.std.proofs.Common.{rules}
use Rattle.std.proofs.lemmas.Result.{err_from_is_err_and}
use Rattle.crush_text.proofs.Weighed.{weight_err, weight_fault, weight_reads}
use Rattle.crush_text.proofs.Refused.{no_line}
use Rattle.crush_text.proofs.reader.MapReader.weight.Goals as goal

pub returns-in_err-word : goal.returns-in_err-word
returns-in_err-word g c =
    let p = err_from_is_err_and c.from_residual.result c.from_residual.ensures.1 in
    rw (p.1, p.2) (no_line _ _ _ _ _ (λ d h.
    (weight_err d _ _ _ _ c.weight_of-expected.ensures c.in_err-word.ensures.gives)))

pub returns-in_err-weight : goal.returns-in_err-weight
returns-in_err-weight g c =
    let p = err_from_is_err_and c.from_residual-in_err-weight.result c.from_residual-in_err-weight.ensures.1 in
    rw (p.1, p.2) (no_line _ _ _ _ _ (λ d h.
    (weight_fault d _ _ _ _ _ _ c.weight_of-expected.ensures c.in_ok-word.ensures.gives (c.in_err-weight.ensures.weighs d))))

pub returns : goal.returns
returns g c = record {
  reads = λ d h.
      weight_reads d _ _ _ _ _ _ _ _ c.weight_of-expected.ensures c.in_ok-word.ensures.gives (c.in_ok-weight.ensures.weighs d) (c.add_item.ensures.adds d h);
  stands = c.add_item.ensures.filling;
  shorter = search rules;
}
