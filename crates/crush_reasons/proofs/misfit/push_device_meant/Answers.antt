use Rattle.std.proofs.Common.{◌++◌, ap, ◌∙◌}
use Rattle.std.proofs.lemmas.Result.{on_ok_weaker}
use Rattle.crush_reasons.specs.Misfit.{number_meant}
use Rattle.crush_reasons.proofs.misfit.push_device_meant.Goals as goal

pub returns : goal.returns
returns c = on_ok_weaker c.push_number_meant.result (λ e. e ∙ ap (λ number. c.args.text.now.items ++ number_meant number) c.number_up_to.ensures) c.push_number_meant.ensures
