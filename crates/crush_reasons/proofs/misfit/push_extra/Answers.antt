use Rattle.std.proofs.Common.{codes}
use Rattle.std.proofs.lemmas.Result.{on_ok_weaker}
use Rattle.crush_reasons.specs.Shown.{told}
use Rattle.crush_reasons.proofs.Lines.{two_pushed}
use Rattle.crush_reasons.proofs.misfit.push_extra.Goals as goal

pub returns : goal.returns
returns c = on_ok_weaker c.push_told.result (λ e. two_pushed c.args.text.now.items (codes "unexpected extra word ") (told c.args.word.now) _ _ c.in_ok-extend_from_slice.ensures.items e) c.push_told.ensures
