use Rattle.std.proofs.Common.{◌≡◌, ◌∙◌, ap₂}
use Rattle.std.proofs.lemmas.Result.{IfOk-weaker}
use Rattle.clap.specs.Words.{app_of, with_rule}
use Rattle.crush_options.specs.Options.{output, scripts, with_ends}
use Rattle.crush_options.proofs.command_line.command.Goals as goal

pub returns : goal.returns
returns c =
    let one : app_of c.in_ok-arg.field-0 ≡ with_rule with_ends scripts = c.in_ok-arg.ensures.shape c.scripts.ensures.own ∙ ap₂ with_rule c.in_ok-with_ends.ensures c.scripts.ensures.rule in
    let two : app_of c.in_ok-arg-2.field-0 ≡ with_rule (with_rule with_ends scripts) output = c.in_ok-arg-2.ensures.shape c.output.ensures.own ∙ ap₂ with_rule one c.output.ensures.rule in
    IfOk-weaker c.arg-3.result _ _ (λ m h. h.shape c.file.ensures.own ∙ ap₂ with_rule two c.file.ensures.rule) c.arg-3.ensures
