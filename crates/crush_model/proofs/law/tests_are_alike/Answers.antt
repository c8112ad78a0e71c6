use Rattle.crush_model.proofs.Same.{is_too_heavy-same, has_too_many-same}
use Rattle.crush_model.proofs.law.tests_are_alike.Goals as goal

pub returns : goal.returns
returns c = record { sums = λ t u once same. is_too_heavy-same t u same.rows once; room = λ t u same. has_too_many-same t u same.rows }
