use Rattle.std.proofs.Common.{◌≡◌, ◌∙◌, ap₂, codes}
use Rattle.std.proofs.lemmas.Result.{IfOk-weaker}
use Rattle.clap.specs.Words.{App, app_of, with_rule}
use Rattle.crush_options.specs.Options.{output}
use Rattle.crush_options.specs.Verbs.{apply_shown, more_scripts, needed}
use Rattle.crush_options.proofs.verbs.apply.Goals as goal

pub returns : goal.returns
returns c =
    let s1 : App = with_rule apply_shown output in
    let e1 : app_of c.in_ok-arg.field-0 ≡ s1 = c.in_ok-arg.ensures.shape c.output.ensures.own ∙ ap₂ with_rule c.in_ok-apply_shown.ensures c.output.ensures.rule in
    let s2 : App = with_rule s1 (needed (codes "MAP")) in
    let e2 : app_of c.in_ok-arg-2.field-0 ≡ s2 = c.in_ok-arg-2.ensures.shape c.needed.ensures.own ∙ ap₂ with_rule e1 c.needed.ensures.rule in
    IfOk-weaker c.arg-3.result _ _ (λ m h. h.shape c.more_scripts.ensures.own ∙ ap₂ with_rule e2 c.more_scripts.ensures.rule) c.arg-3.ensures
