use Rattle.std.proofs.Common.{ap, codes}
use Rattle.std.proofs.lemmas.Result.{on_ok_weaker}
use Rattle.crush_reasons.specs.Misfit.{bare, weight_meant}
use Rattle.crush_reasons.proofs.Lines.{then_pushed}
use Rattle.crush_reasons.proofs.misfit.push_mistyped.Goals as goal

pub returns : goal.returns
returns c =
    let word = c.args.word.now in
    on_ok_weaker c.push_weight_meant.result (λ e. then_pushed c.args.text.now.items (codes " is not a weight: ") _ (weight_meant (bare word)) _ _ c.in_ok-extend_from_slice.ensures.items e (ap weight_meant c.bare.ensures)) c.push_weight_meant.ensures
