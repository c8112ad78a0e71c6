use Rattle.std.proofs.Common.{take}
use Rattle.std.specs.Prelude.{All, map}
use Rattle.crush_model.specs.Lawful.{IsShadowId}
use Rattle.crush_nodes.specs.Seen.{shadow_data}
use Rattle.crush_nodes.proofs.form.recall_shadow_ids.Given as goal

abbrev pub invariant-loop-class_id : goal.invariant-loop-class_id
invariant-loop-class_id g l = All IsShadowId (map shadow_data (take l.class_id-index l.class_ids))
