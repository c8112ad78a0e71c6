use Rattle.std.proofs.Common.{[], ◌∷◌, ◌++◌, ap, ◌∙◌}
use Rattle.std.specs.Prelude.{map}
use Rattle.crush_nodes.specs.Seen.{shadow_data}
use Rattle.crush_edits.proofs.SettingLaws.{map-push}
use Rattle.crush_builder.proofs.builder.list_with.Goals as goal

pub returns : goal.returns
returns g c = ap (map shadow_data) c.in_ok-push.ensures.items ∙ map-push shadow_data c.in_ok-own.own.items c.args.class_id ∙ ap (λ zs. zs ++ shadow_data c.args.class_id ∷ []) c.in_ok-own.ensures
