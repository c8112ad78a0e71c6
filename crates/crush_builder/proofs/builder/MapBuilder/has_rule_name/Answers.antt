use Rattle.std.proofs.Common.{ap, ◌∙◌}
use Rattle.std.specs.Prelude.{bytes_eq}
use Rattle.std.specs.List.{list_any}
use Rattle.crush_edits.specs.Setting.{RuleData}
use Rattle.crush_builder.specs.Building.{BuilderData}
use Rattle.crush_builder.specs.Rules.{has_rule_name}
use Rattle.crush_builder.proofs.RuleSteps.{rule_name_found}
use Rattle.crush_builder.proofs.builder.MapBuilder.has_rule_name.Goals as goal

pub returns : goal.returns
returns g c = λ d i.
    c.names_rule.ensures ∙ rule_name_found c.args.name.now c.rules.result.now ∙ ap (list_any (λ (x : RuleData). bytes_eq x.name c.args.name.now)) c.rules.ensures
    ∙ ap (λ s. has_rule_name s c.args.name.now) (ap (λ (b : BuilderData). b.setting) c.self.view_is ∙ i.setting)
