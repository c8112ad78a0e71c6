use Rattle.std.proofs.Common.{◌≡◌, ◌∙◌, ap₂, codes}
use Rattle.std.proofs.lemmas.Result.{IfOk-weaker}
use Rattle.clap.specs.Words.{App, app_of, with_rule}
use Rattle.crush_options.specs.Options.{flag, option, with_parts}
use Rattle.crush_options.proofs.command_line.with_ends.Goals as goal

pub returns : goal.returns
returns c =
    let class : App = with_rule with_parts (option (codes "class")) in
    let one : app_of c.in_ok-arg.field-0 ≡ class = c.in_ok-arg.ensures.shape c.option.ensures.own ∙ ap₂ with_rule c.in_ok-with_parts.ensures c.option.ensures.rule in
    let two : app_of c.in_ok-arg-2.field-0 ≡ with_rule class (flag (codes "exact")) = c.in_ok-arg-2.ensures.shape c.flag.ensures.own ∙ ap₂ with_rule one c.flag.ensures.rule in
    let three : app_of c.in_ok-arg-3.field-0 ≡ with_rule (with_rule class (flag (codes "exact"))) (flag (codes "exit-code")) = c.in_ok-arg-3.ensures.shape c.flag-2.ensures.own ∙ ap₂ with_rule two c.flag-2.ensures.rule in
    IfOk-weaker c.arg-4.result _ _ (λ m h. h.shape c.flag-3.ensures.own ∙ ap₂ with_rule three c.flag-3.ensures.rule) c.arg-4.ensures
