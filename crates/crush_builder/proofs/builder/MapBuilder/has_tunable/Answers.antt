use Rattle.std.proofs.Common.{ap, ◌∙◌}
use Rattle.std.specs.Prelude.{bytes_eq}
use Rattle.std.specs.List.{list_any}
use Rattle.crush_edits.specs.Setting.{TunableData, has_tunable}
use Rattle.crush_edits.proofs.SettingLaws.{tunable_got}
use Rattle.crush_builder.specs.Building.{BuilderData}
use Rattle.crush_builder.proofs.builder.MapBuilder.has_tunable.Goals as goal

pub returns : goal.returns
returns g c = λ d i.
    c.contains_key.ensures ∙ tunable_got c.args.name.now c.tunables.result.now.entries ∙ ap (list_any (λ (x : TunableData). bytes_eq x.name c.args.name.now)) c.tunables.ensures
    ∙ ap (λ s. has_tunable s c.args.name.now) (ap (λ (b : BuilderData). b.setting) c.self.view_is ∙ i.setting)
