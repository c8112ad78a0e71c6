use Rattle.std.proofs.Common.{◌≡◌, None, take, map}
use Rattle.std.specs.Prelude.{find, bytes_eq}
use Rattle.crush_model.specs.Items.{ShadowData}
use Rattle.crush_nodes.specs.Seen.{shadow_data}
use Rattle.crush_json.proofs.steps.class_id_among.Given as goal

-- none of the class ids so far is for the class
abbrev pub invariant-loop-id : goal.invariant-loop-id
invariant-loop-id g l = find (λ (x : ShadowData). bytes_eq x.class l.class) (map shadow_data (take l.id-index l.ids)) ≡ None
