use Rattle.std.proofs.Common.{◌≡◌, ◌∙◌, ap₂, codes}
use Rattle.std.proofs.lemmas.Result.{IfOk-weaker}
use Rattle.clap.specs.Words.{app_of, with_rule}
use Rattle.crush_options.specs.Options.{flag, option, with_modes}
use Rattle.crush_options.proofs.command_line.with_output_flags.Goals as goal

pub returns : goal.returns
returns c =
    let one : app_of c.in_ok-arg.field-0 ≡ with_rule with_modes (flag (codes "tree")) = c.in_ok-arg.ensures.shape c.flag.ensures.own ∙ ap₂ with_rule c.in_ok-with_modes.ensures c.flag.ensures.rule in
    let two : app_of c.in_ok-arg-2.field-0 ≡ with_rule (with_rule with_modes (flag (codes "tree"))) (option (codes "since")) = c.in_ok-arg-2.ensures.shape c.option.ensures.own ∙ ap₂ with_rule one c.option.ensures.rule in
    let three : app_of c.in_ok-arg-3.field-0 ≡ with_rule (with_rule (with_rule with_modes (flag (codes "tree"))) (option (codes "since"))) (flag (codes "as-ceph")) = c.in_ok-arg-3.ensures.shape c.flag-2.ensures.own ∙ ap₂ with_rule two c.flag-2.ensures.rule in
    IfOk-weaker c.arg-4.result _ _ (λ m h. h.shape c.option-2.ensures.own ∙ ap₂ with_rule three c.option-2.ensures.rule) c.arg-4.ensures
