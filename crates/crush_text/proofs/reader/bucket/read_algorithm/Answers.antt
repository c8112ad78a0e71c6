use Rattle.std.proofs.Common.{refl}
use Rattle.std.proofs.lemmas.Result.{err_from_is_err_and}
use Rattle.crush_text.specs.Role.{algorithm}
use Rattle.crush_text.proofs.LineEnds.{operand_fails}
use Rattle.crush_text.proofs.Refused.{no_value}
use Rattle.crush_text.proofs.reader.bucket.read_algorithm.Goals as goal

pub returns-in_err-word-clause-alg : goal.returns-in_err-word-clause-alg
returns-in_err-word-clause-alg c =
    let p = err_from_is_err_and c.from_residual.result c.from_residual.ensures.1 in
    rw (p.1, p.2) (no_value algorithm _ _ _ _ (λ d h. operand_fails d algorithm _ _ (λ w. (_, refl)) (c.in_err-word.ensures.gives d tt)))
