use Rattle.std.proofs.Common.{ap, ◌∙◌}
use Rattle.std.specs.Prelude.{◌==◌}
use Rattle.std.specs.List.{list_any}
use Rattle.crush_edits.specs.Setting.{RuleData}
use Rattle.crush_builder.specs.Building.{BuilderData}
use Rattle.crush_builder.specs.Rules.{has_rule_id}
use Rattle.crush_builder.proofs.RuleSteps.{rule_id_found}
use Rattle.crush_builder.proofs.builder.MapBuilder.has_rule_id.Goals as goal

pub returns : goal.returns
returns g c = λ d i.
    c.numbers_rule.ensures ∙ rule_id_found c.args.id c.rules.result.now ∙ ap (list_any (λ (x : RuleData). x.id == c.args.id)) c.rules.ensures
    ∙ ap (λ s. has_rule_id s c.args.id) (ap (λ (b : BuilderData). b.setting) c.self.view_is ∙ i.setting)
