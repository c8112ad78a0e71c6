use Rattle.std.proofs.Common.{◌≡◌, ◌∙◌, ap₂, codes}
use Rattle.std.proofs.lemmas.Result.{IfOk-weaker}
use Rattle.clap.specs.Words.{App, app_of, with_rule}
use Rattle.crush_options.specs.Options.{flag, option, output}
use Rattle.crush_options.specs.Verbs.{diff_shown, needed}
use Rattle.crush_options.proofs.verbs.diff.Goals as goal

pub returns : goal.returns
returns c =
    let s1 : App = with_rule diff_shown (option (codes "down-to")) in
    let e1 : app_of c.in_ok-arg.field-0 ≡ s1 = c.in_ok-arg.ensures.shape c.option.ensures.own ∙ ap₂ with_rule c.in_ok-diff_shown.ensures c.option.ensures.rule in
    let s2 : App = with_rule s1 (option (codes "class")) in
    let e2 : app_of c.in_ok-arg-2.field-0 ≡ s2 = c.in_ok-arg-2.ensures.shape c.option-2.ensures.own ∙ ap₂ with_rule e1 c.option-2.ensures.rule in
    let s3 : App = with_rule s2 (flag (codes "exit-code")) in
    let e3 : app_of c.in_ok-arg-3.field-0 ≡ s3 = c.in_ok-arg-3.ensures.shape c.flag.ensures.own ∙ ap₂ with_rule e2 c.flag.ensures.rule in
    let s4 : App = with_rule s3 output in
    let e4 : app_of c.in_ok-arg-4.field-0 ≡ s4 = c.in_ok-arg-4.ensures.shape c.output.ensures.own ∙ ap₂ with_rule e3 c.output.ensures.rule in
    let s5 : App = with_rule s4 (needed (codes "OLD")) in
    let e5 : app_of c.in_ok-arg-5.field-0 ≡ s5 = c.in_ok-arg-5.ensures.shape c.needed.ensures.own ∙ ap₂ with_rule e4 c.needed.ensures.rule in
    IfOk-weaker c.arg-6.result _ _ (λ m h. h.shape c.needed-2.ensures.own ∙ ap₂ with_rule e5 c.needed-2.ensures.rule) c.arg-6.ensures
