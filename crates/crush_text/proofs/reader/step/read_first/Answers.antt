use Rattle.std.proofs.lemmas.Result.{err_from_is_err_and}
use Rattle.crush_text.specs.Role.{step_word}
use Rattle.crush_text.proofs.LineEnds.{next_fails}
use Rattle.crush_text.proofs.Refused.{no_value}
use Rattle.crush_text.proofs.reader.step.read_first.Goals as goal

pub returns-in_err-word-clause-word : goal.returns-in_err-word-clause-word
returns-in_err-word-clause-word c =
    let p = err_from_is_err_and c.from_residual.result c.from_residual.ensures.1 in
    rw (p.1, p.2) (no_value step_word _ _ _ _ (λ d h. next_fails d step_word _ _ c.in_err-word.ensures.gives))
