use Rattle.std.proofs.Common.{codes}
use Rattle.std.proofs.lemmas.Result.{on_ok_weaker}
use Rattle.crush_reasons.specs.Flaws.{expected_text, too_early}
use Rattle.crush_reasons.proofs.Lines.{two_pushed}
use Rattle.crush_reasons.proofs.flaws.push_too_early.Goals as goal

pub returns : goal.returns
unfolding too_early
returns c = on_ok_weaker c.push_expected.result (λ e. two_pushed c.args.text.now.items (codes "the text ends too early: expected ") (expected_text c.args.expected) _ _ c.in_ok-extend_from_slice.ensures.items e) c.push_expected.ensures
