use Rattle.std.proofs.Common.{rules, ◌≡◌, ◌∙◌, ap₂, codes}
use Rattle.std.proofs.lemmas.Result.{IfOk-weaker}
use Rattle.clap.specs.Words.{app_of, with_rule}
use Rattle.crush_options.specs.Options.{flag, named}
use Rattle.crush_options.proofs.command_line.with_modes.Goals as goal

pub returns : goal.returns
returns c =
    let named_is : app_of c.after_help.result ≡ named = search rules in
    let one : app_of c.in_ok-arg.field-0 ≡ with_rule named (flag (codes "in-turn")) = c.in_ok-arg.ensures.shape c.flag.ensures.own ∙ ap₂ with_rule named_is c.flag.ensures.rule in
    let two : app_of c.in_ok-arg-2.field-0 ≡ with_rule (with_rule named (flag (codes "in-turn"))) (flag (codes "no-history")) = c.in_ok-arg-2.ensures.shape c.flag-2.ensures.own ∙ ap₂ with_rule one c.flag-2.ensures.rule in
    let three : app_of c.in_ok-arg-3.field-0 ≡ with_rule (with_rule (with_rule named (flag (codes "in-turn"))) (flag (codes "no-history"))) (flag (codes "strict")) = c.in_ok-arg-3.ensures.shape c.flag-3.ensures.own ∙ ap₂ with_rule two c.flag-3.ensures.rule in
    IfOk-weaker c.arg-4.result _ _ (λ m h. h.shape c.flag-4.ensures.own ∙ ap₂ with_rule three c.flag-4.ensures.rule) c.arg-4.ensures
