use Rattle.std.proofs.Common.{ap, ◌∙◌}
use Rattle.std.specs.Prelude.{is_some}
use Rattle.crush_builder.proofs.KindSteps.{has_name_found}
use Rattle.crush_builder.proofs.builder.MapBuilder.has_kind_name.Goals as goal

pub returns : goal.returns
returns g c = λ d i. c.is_some.ensures ∙ ap is_some (c.kind_number.ensures d i) ∙ has_name_found d.setting c.args.name.now
