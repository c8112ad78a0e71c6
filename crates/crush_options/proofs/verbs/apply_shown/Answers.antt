use Rattle.std.proofs.Common.{◌≡◌, ◌∙◌, ap₂, codes}
use Rattle.std.proofs.lemmas.Result.{IfOk-weaker}
use Rattle.clap.specs.Words.{App, app_of, with_rule}
use Rattle.crush_options.specs.Options.{flag, option}
use Rattle.crush_options.specs.Verbs.{apply_flags}
use Rattle.crush_options.proofs.verbs.apply_shown.Goals as goal

pub returns : goal.returns
returns c =
    let s1 : App = with_rule apply_flags (flag (codes "json")) in
    let e1 : app_of c.in_ok-arg.field-0 ≡ s1 = c.in_ok-arg.ensures.shape c.flag.ensures.own ∙ ap₂ with_rule c.in_ok-apply_flags.ensures c.flag.ensures.rule in
    let s2 : App = with_rule s1 (option (codes "under")) in
    let e2 : app_of c.in_ok-arg-2.field-0 ≡ s2 = c.in_ok-arg-2.ensures.shape c.option.ensures.own ∙ ap₂ with_rule e1 c.option.ensures.rule in
    let s3 : App = with_rule s2 (option (codes "down-to")) in
    let e3 : app_of c.in_ok-arg-3.field-0 ≡ s3 = c.in_ok-arg-3.ensures.shape c.option-2.ensures.own ∙ ap₂ with_rule e2 c.option-2.ensures.rule in
    IfOk-weaker c.arg-4.result _ _ (λ m h. h.shape c.flag-2.ensures.own ∙ ap₂ with_rule e3 c.flag-2.ensures.rule) c.arg-4.ensures
