use Rattle.std.proofs.Common.{◌≡◌, ◌∙◌, ap₂, codes}
use Rattle.std.proofs.lemmas.Result.{IfOk-weaker}
use Rattle.clap.specs.Words.{app_of, with_rule}
use Rattle.crush_options.specs.Options.{flag, option, with_output_flags}
use Rattle.crush_options.proofs.command_line.with_parts.Goals as goal

pub returns : goal.returns
returns c =
    let one : app_of c.in_ok-arg.field-0 ≡ with_rule with_output_flags (flag (codes "by-name")) = c.in_ok-arg.ensures.shape c.flag.ensures.own ∙ ap₂ with_rule c.in_ok-with_output_flags.ensures c.flag.ensures.rule in
    let two : app_of c.in_ok-arg-2.field-0 ≡ with_rule (with_rule with_output_flags (flag (codes "by-name"))) (flag (codes "json")) = c.in_ok-arg-2.ensures.shape c.flag-2.ensures.own ∙ ap₂ with_rule one c.flag-2.ensures.rule in
    let three : app_of c.in_ok-arg-3.field-0 ≡ with_rule (with_rule (with_rule with_output_flags (flag (codes "by-name"))) (flag (codes "json"))) (option (codes "under")) = c.in_ok-arg-3.ensures.shape c.option.ensures.own ∙ ap₂ with_rule two c.option.ensures.rule in
    IfOk-weaker c.arg-4.result _ _ (λ m h. h.shape c.option-2.ensures.own ∙ ap₂ with_rule three c.option-2.ensures.rule) c.arg-4.ensures
