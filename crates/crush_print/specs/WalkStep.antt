-- A step of a walk as plain data.
use Rattle.crush_items.specs.Tree.{WalkStepData}
use Rattle.crush_print.specs.declared.steps.WalkStep.{WalkStep}
use Rattle.crush_items.specs.Items.{node_view}
pub use Rattle.crush_items.specs.Items.{node_view}

-- the step as plain data: its depth, and its item without the items below it
abbrev pub walk_step_data : {A : _} → WalkStep A → WalkStepData
walk_step_data s = record { depth = s.depth; item = node_view s.parent s.node.now }
