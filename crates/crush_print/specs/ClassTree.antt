-- The tree of one class: a part of the tree of a map, in which only the devices of the class count.
use Rattle.std.specs.Prelude.{ℕ, List, [], ◌∷◌, Option, Some, None, flat_map}
use Rattle.crush_model.specs.Table.{Row}
use Rattle.crush_edits.specs.Setting.{SettingData}
use Rattle.crush_items.specs.Tree.{WalkStepData}
use Rattle.crush_print.specs.ClassWeights.{weight_of_class}
use Rattle.crush_print.specs.TreePart.{part_steps}
use Rattle.crush_print.specs.TreeText.{steps_text}
use Rattle.crush_print.specs.declared.part.TreePart.{TreePart}

-- a list with only this step, in which the item has the given weight in place of its own; an empty list if there is no weight
abbrev pub weighed : Option ℕ → WalkStepData → List WalkStepData
weighed None s = []
weighed (Some w) s = record s { item = record s.item { weight = w } } ∷ []

-- CLASS STEPS: the steps of the part. The weight of a step's item is replaced by the total weight of all devices of the class that are this item or below it. If there is no such device,
-- the step is left out
unfoldable pub class_steps : TreePart → List ℕ → List Row → List WalkStepData
class_steps p c t = flat_map (λ (s : WalkStepData). weighed (weight_of_class t c s.item.id) s) (part_steps p t)

-- the text of these steps
unfoldable pub class_tree_text : SettingData → TreePart → List ℕ → List Row → List ℕ
class_tree_text s p c t = steps_text s (class_steps p c t)
