use Rattle.std.proofs.Common.{◌++◌, ap, codes, ◌∙◌}
use Rattle.std.proofs.lemmas.Result.{on_ok_weaker}
use Rattle.crush_reasons.specs.Misfit.{bare, device_meant, digits_of}
use Rattle.crush_reasons.specs.Shown.{told}
use Rattle.crush_reasons.proofs.Lines.{then_pushed, two_pushed}
use Rattle.crush_reasons.proofs.misfit.push_no_device.Goals as goal

pub returns : goal.returns
returns c =
    let old = c.args.text.now.items in
    let word = c.args.word.now in
    let front = two_pushed old (told word) (codes " is not a device: ") _ _ c.in_ok-push_told.ensures c.in_ok-extend_from_slice.ensures.items in
    let digits = c.digits_of.ensures ∙ ap digits_of c.bare.ensures in
    on_ok_weaker c.push_device_meant.result (λ e. then_pushed old (told word ++ codes " is not a device: ") _ (device_meant (digits_of (bare word))) _ _ front e (ap device_meant digits)) c.push_device_meant.ensures
