use Rattle.std.proofs.Common.{[], ◌++◌, ap, sym, ◌∙◌}
use Rattle.std.proofs.lemmas.Result.{on_ok_weaker}
use Rattle.crush_reasons.specs.Misfit.{number_meant}
use Rattle.crush_reasons.proofs.misfit.push_number_meant.Goals as goal

pub returns-in-Some : goal.returns-in-Some
returns-in-Some c =
    let old = c.args.text.now.items in
    let digits = c.as_bytes-number.ensures.value ∙ c.format.ensures.text in
    on_ok_weaker c.push_all.result (λ e. e ∙ (λ i. old ++ (c.as_slice.ensures i ++ (digits i ++ (c.as_slice-in-Some.ensures i ++ [])))) ∙ ap (λ number. old ++ number_meant number) (sym c.in-Some.is)) c.push_all.ensures

pub returns-in-None : goal.returns-in-None
returns-in-None c = on_ok_weaker c.push_bytes.result (λ e. e ∙ ap (λ number. c.args.text.now.items ++ number_meant number) (sym c.in-None.is)) c.push_bytes.ensures
