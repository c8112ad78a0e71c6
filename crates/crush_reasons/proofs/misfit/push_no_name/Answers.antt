use Rattle.std.proofs.Common.{ap}
use Rattle.std.proofs.lemmas.Result.{on_ok_weaker}
use Rattle.crush_reasons.specs.Misfit.{bare, name_meant}
use Rattle.crush_reasons.specs.Shown.{told}
use Rattle.crush_reasons.proofs.Lines.{then_pushed}
use Rattle.crush_reasons.proofs.misfit.push_no_name.Goals as goal

pub returns : goal.returns
returns c =
    let word = c.args.word.now in
    on_ok_weaker c.push_name_meant.result (λ e. then_pushed c.args.text.now.items (told word) _ (name_meant (bare word)) _ _ c.in_ok-push_told.ensures e (ap name_meant c.bare.ensures)) c.push_name_meant.ensures
