use Rattle.std.proofs.Common.{refl, rules}
use Rattle.std.proofs.lemmas.Result.{err_from_is_err_and}
use Rattle.crush_text.specs.Role.{type_number}
use Rattle.crush_text.specs.Reads.{word_at}
use Rattle.crush_text.proofs.LineEnds.{operand_fails}
use Rattle.crush_text.proofs.Refused.{finds_no_value}
use Rattle.crush_text.proofs.reader.MapReader.type_number.Goals as goal

pub returns-in_err-word : goal.returns-in_err-word
returns-in_err-word g c =
    let p = err_from_is_err_and c.from_residual.result c.from_residual.ensures.1 in
    rw (p.1, p.2) (finds_no_value type_number _ _ _ refl (λ d h. operand_fails d type_number _ _ (λ w. (_, refl)) (c.in_err-word.ensures.gives d tt)))

pub returns-then-has_kind_number : goal.returns-then-has_kind_number
unfolding word_at
returns-then-has_kind_number g c = search rules
