use Rattle.std.proofs.Common.{◌≡◌, ◌∙◌, ap₂, codes}
use Rattle.std.proofs.lemmas.Result.{IfOk-weaker}
use Rattle.clap.specs.Words.{App, app_of, with_rule}
use Rattle.crush_options.specs.Options.{flag}
use Rattle.crush_options.specs.Verbs.{verb_of}
use Rattle.crush_options.proofs.verbs.apply_flags.Goals as goal

pub returns : goal.returns
returns c =
    let s1 : App = with_rule (verb_of (codes "crushedit apply")) (flag (codes "dry-run")) in
    let e1 : app_of c.in_ok-arg.field-0 ≡ s1 = c.in_ok-arg.ensures.shape c.flag.ensures.own ∙ ap₂ with_rule c.new_verb.ensures c.flag.ensures.rule in
    let s2 : App = with_rule s1 (flag (codes "make")) in
    let e2 : app_of c.in_ok-arg-2.field-0 ≡ s2 = c.in_ok-arg-2.ensures.shape c.flag-2.ensures.own ∙ ap₂ with_rule e1 c.flag-2.ensures.rule in
    let s3 : App = with_rule s2 (flag (codes "last-wins")) in
    let e3 : app_of c.in_ok-arg-3.field-0 ≡ s3 = c.in_ok-arg-3.ensures.shape c.flag-3.ensures.own ∙ ap₂ with_rule e2 c.flag-3.ensures.rule in
    IfOk-weaker c.arg-4.result _ _ (λ m h. h.shape c.flag-4.ensures.own ∙ ap₂ with_rule e3 c.flag-4.ensures.rule) c.arg-4.ensures
