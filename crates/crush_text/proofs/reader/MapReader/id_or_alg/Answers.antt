use Rattle.std.proofs.Common.{refl}
use Rattle.std.proofs.lemmas.Result.{err_from_is_err_and}
use Rattle.crush_text.specs.Role.{id_or_alg}
use Rattle.crush_text.proofs.LineEnds.{next_fails}
use Rattle.crush_text.proofs.Refused.{finds_no_value}
use Rattle.crush_text.proofs.reader.MapReader.id_or_alg.Goals as goal

pub returns-in_err-word : goal.returns-in_err-word
returns-in_err-word g c =
    let p = err_from_is_err_and c.from_residual.result c.from_residual.ensures.1 in
    rw (p.1, p.2) (finds_no_value id_or_alg _ _ _ refl (λ d h. next_fails d id_or_alg _ _ c.in_err-word.ensures.gives))
