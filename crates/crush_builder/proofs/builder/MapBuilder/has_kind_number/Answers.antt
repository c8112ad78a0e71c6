use Rattle.std.proofs.Common.{ap, sym, ◌∙◌}
use Rattle.std.specs.Prelude.{is_some}
use Rattle.crush_builder.specs.Building.{BuilderData, has_kind_number}
use Rattle.crush_builder.proofs.KindSteps.{has_number_found, some_copied}
use Rattle.crush_builder.proofs.builder.MapBuilder.has_kind_number.Goals as goal

pub returns : goal.returns
returns g c = λ d i.
    c.is_some.ensures ∙ sym (some_copied c.kind_name.result) ∙ ap is_some c.kind_name.ensures ∙ has_number_found c.self.inside.setting c.args.number
    ∙ ap (λ s. has_kind_number s c.args.number) (ap (λ (b : BuilderData). b.setting) c.self.view_is ∙ i.setting)
