-- If memory runs out, this is reported at the rule's name or at the word after `type`.
use Rattle.std.proofs.Common.{ap, inl, inr}
use Rattle.std.proofs.lemmas.Result.{err_from_is_err_and}
use Rattle.crush_text.specs.declared.fault.TextFault.{TextFault}
use Rattle.crush_text.proofs.reader.rule.rule_head_values.Goals as goal

pub returns-in_err-name-clause-memory : goal.returns-in_err-name-clause-memory
returns-in_err-name-clause-memory c =
    let p = err_from_is_err_and c.from_residual.result c.from_residual.ensures.1 in
    rw (p.1, p.2) (ap (λ (f : TextFault). f.kind) c.in_err-name.ensures.memory, inl (ap (λ (f : TextFault). f.place) c.in_err-name.ensures.memory))

pub returns-in_err-kind-clause-memory : goal.returns-in_err-kind-clause-memory
returns-in_err-kind-clause-memory c =
    let p = err_from_is_err_and c.from_residual-in_err-kind.result c.from_residual-in_err-kind.ensures.1 in
    rw (p.1, p.2) (ap (λ (f : TextFault). f.kind) c.in_err-kind.ensures.memory, inr (ap (λ (f : TextFault). f.place) c.in_err-kind.ensures.memory))
