use Rattle.std.proofs.Common.{ap, ◌∙◌}
use Rattle.std.specs.Prelude.{bytes_eq}
use Rattle.std.specs.List.{list_any}
use Rattle.crush_model.specs.Items.{ShadowData}
use Rattle.crush_nodes.specs.Seen.{shadow_data}
use Rattle.crush_builder.specs.Building.{pending_class_ids}
use Rattle.crush_builder.proofs.RowSteps.{any_seen}
use Rattle.crush_builder.proofs.builder.MapBuilder.has_class.Goals as goal

pub returns : goal.returns
returns g c = λ d i.
    c.names_class.ensures ∙ any_seen shadow_data (λ (x : ShadowData). bytes_eq x.class c.args.class.now) c.class_ids.result.now
    ∙ ap (list_any (λ (x : ShadowData). bytes_eq x.class c.args.class.now)) (c.class_ids.ensures ∙ ap pending_class_ids i.pending)
