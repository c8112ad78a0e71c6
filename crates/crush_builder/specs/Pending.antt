-- How contracts see the incomplete bucket of a builder.
pub use Rattle.crush_hierarchy.specs.Given.{with_first_weight}
use Rattle.std.specs.Prelude.{List, [], Option, Some, None, Vec, map}
use Rattle.crush_model.specs.Items.{ShadowData}
use Rattle.crush_nodes.specs.declared.node.ShadowId.{ShadowId}
use Rattle.crush_nodes.specs.Seen.{shadow_data}
use Rattle.crush_builder.specs.declared.builder.Pending.{Pending as BuilderPart}
use Rattle.crush_builder.specs.declared.builder.Pending.TheVariants.{Nothing, Begun, Numbered, Filling}
use Rattle.crush_builder.specs.Built.{Pending, nothing, begun, numbered, filling}

-- the class ids in the builder's list; there are none if the builder has no list yet
abbrev pub listed : {A : _} → Option (Vec (ShadowId A) A) → List ShadowData
listed None = []
listed (Some class_ids) = map shadow_data class_ids.items

-- the incomplete bucket of the code, as the value by which contracts describe it
abbrev pub pending_data : {A : _} → BuilderPart A → Pending
pending_data Nothing = nothing
pending_data (Begun kind name) = begun kind name
pending_data (Numbered kind name b class_ids) = numbered kind name b (listed class_ids)
pending_data (Filling b) = filling b
