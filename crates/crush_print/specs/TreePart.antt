-- A part of the tree of a map: an item and all items below it, down to the buckets of a type.
use Rattle.std.specs.Prelude.{◌≡◌, ℕ, Bool, false, List, [], ◌∷◌, Option, None, Some, if◌then◌else◌, length, nat_lt, ◌==◌}
use Rattle.crush_units.specs.declared.id.ItemId.{ItemId}
use Rattle.crush_model.specs.Table.{Row}
use Rattle.crush_edits.specs.Setting.{SettingData}
use Rattle.crush_items.specs.Tree.{WalkStepData, steps_at, tree_rows}
use Rattle.crush_print.specs.TreeText.{steps_text}
use Rattle.crush_print.specs.declared.part.TreePart.{TreePart}

-- the part that is the whole tree: no top item, and no type
abbrev pub whole_tree : TreePart
whole_tree = record { under = None; down_to = None }

-- UNDER an item: the step of this item, with the depth 0, and the steps of all items below it. Without an item, the steps of the whole tree
abbrev pub steps_under : Option ItemId → List Row → List WalkStepData
steps_under None t = tree_rows t
steps_under (Some i) t = steps_at t (length t) 0 i

-- DOWN TO a type: whether a step is deeper than `closed`, which is the depth of the bucket below which steps are being left out. A deeper step is below this bucket. The result is false if `closed` is none
abbrev pub is_closed : Option ℕ → WalkStepData → Bool
is_closed None s = false
is_closed (Some depth) s = nat_lt depth s.depth

-- the step's depth if its item has this type, and otherwise none; the deeper steps directly after such a step are below its item
abbrev pub closed_by : ℕ → WalkStepData → Option ℕ
closed_by kind s = if s.item.kind == kind then Some s.depth else None

-- the steps, except for those below an item of this type. `closed` is the depth of the last step that was kept, if its item has the type, and otherwise none
abbrev pub down_to : ℕ → Option ℕ → List WalkStepData → List WalkStepData
down_to kind closed [] = []
down_to kind closed (s ∷ rest) = if is_closed closed s then down_to kind closed rest else s ∷ down_to kind (closed_by kind s) rest

-- the steps without those below an item of the given type; all steps if no type is given
abbrev pub cut : Option ℕ → List WalkStepData → List WalkStepData
cut None steps = steps
cut (Some kind) steps = down_to kind None steps

-- PART STEPS: the steps of the part's item and of all items below it (the steps of the whole tree if no item is given), without the steps below an item of the part's type
unfoldable pub part_steps : TreePart → List Row → List WalkStepData
part_steps p t = cut p.down_to (steps_under p.under t)

-- the text of the part's steps
unfoldable pub tree_part_text : SettingData → TreePart → List Row → List ℕ
tree_part_text s p t = steps_text s (part_steps p t)

-- the law: the part without a top item and without a type has the steps of the whole tree
abbrev pub WholeTreeIsAPart : Type 0
WholeTreeIsAPart = (t : List Row) → part_steps whole_tree t ≡ tree_rows t
