use Rattle.std.proofs.Common.{refl}
use Rattle.std.proofs.lemmas.Result.{err_from_is_err_and}
use Rattle.crush_text.specs.Role.{device_id}
use Rattle.crush_text.proofs.LineEnds.{operand_fails}
use Rattle.crush_text.proofs.Refused.{finds_no_value}
use Rattle.crush_text.proofs.reader.MapReader.device_id.Goals as goal

pub returns-in_err-word : goal.returns-in_err-word
returns-in_err-word g c =
    let p = err_from_is_err_and c.from_residual.result c.from_residual.ensures.1 in
    rw (p.1, p.2) (finds_no_value device_id _ _ _ refl (λ d h. operand_fails d device_id _ _ (λ w. (_, refl)) (c.in_err-word.ensures.gives d tt)))
