use Rattle.std.proofs.Common.{refl}
use Rattle.std.proofs.lemmas.Result.{err_from_is_err_and}
use Rattle.crush_text.specs.Role.{number}
use Rattle.crush_text.proofs.LineEnds.{operand_fails}
use Rattle.crush_text.proofs.Refused.{no_value}
use Rattle.crush_text.proofs.reader.roles.read_number.Goals as goal

pub returns-in_err-word : goal.returns-in_err-word
returns-in_err-word c =
    let p = err_from_is_err_and c.from_residual.result c.from_residual.ensures.1 in
    rw (p.1, p.2) (no_value (number c.args.most) _ _ _ _ (λ d h. operand_fails d (number c.args.most) _ _ (λ w. (_, refl)) (c.in_err-word.ensures.gives d tt)))
