-- The classes that have changed: the total weight of their devices differs between the two maps, or they are new and no rule takes them. Devices that no bucket holds count, too.
use Rattle.std.specs.Prelude.{ℕ, ◌==◌, Bool, not, ◌&&◌, ◌||◌, List, [], ◌∷◌, ◌++◌, Option, None, Some, if◌then◌else◌, flat_map, codes}
use Rattle.crush_units.specs.Weight.{weight_text}
use Rattle.crush_model.specs.Table.{Row, item_weight}
use Rattle.crush_edits.specs.Setting.{StepData, take, choose, set, emit, RuleData, SettingData}
use Rattle.crush_since.specs.Collected.{Amount, old_weight, new_weight, old_devices, new_devices, takes, ClassData, collected}
use Rattle.crush_since.specs.CollectedSeen.{added}
use Rattle.crush_items.specs.Entries.{EntryData}
use Rattle.crush_since.specs.declared.since.collected.Source.{Source}
use Rattle.crush_since.specs.declared.since.collected.Source.TheVariants.{Old, New, Rule}

-- the class that an item has or that a step takes, with the amounts that this item or step adds to the class. The result is a list with one element, or the empty list if there is no class
abbrev pub class_of : (Amount → ℕ) → Option (List ℕ) → List ClassData
class_of amounts None = []
class_of amounts (Some c) = record { name = c; amount = amounts } ∷ []

-- the class of a row's item, with the item's weight
abbrev pub row_class : Source → List Row → Row → List ClassData
row_class source t r = class_of (added source (item_weight t r.id r.weight)) r.class

-- the class of an entry's item, with the item's weight
abbrev pub entry_class : Source → EntryData → List ClassData
entry_class source e = class_of (added source e.item.view.weight) e.item.view.class

-- the class that a step takes
abbrev pub step_class : StepData → List ClassData
step_class (take b c) = class_of (added Rule 0) c
step_class (choose leaf firstn count kind) = []
step_class (set word value) = []
step_class emit = []

abbrev pub rule_classes : List RuleData → List ClassData
rule_classes rules = flat_map (λ (r : RuleData). flat_map step_class r.steps) rules

-- CLASSES that a device of at least one table has, or that a rule takes. Each class comes once, with the sums of its amounts. The classes are in ascending order of their names
unfoldable pub classes : List Row → List Row → List RuleData → List ClassData
classes t u rules = collected (flat_map (row_class Old t) t ++ flat_map (row_class New u) u ++ rule_classes rules)

-- a class: its name, the total weights of its devices in the old map (`was`) and in the new map (`is`), whether the class is new, and whether a step of a rule takes it. A class is new if a device of the new map has it, and no device of the old map has it
pub record ClassChangeData : Type 0 where
  pub name : List ℕ
  pub was : ℕ
  pub is : ℕ
  pub is_new : Bool
  pub is_taken : Bool

abbrev pub class_change : ClassData → ClassChangeData
class_change x = record {
  name = x.name;
  was = x.amount old_weight;
  is = x.amount new_weight;
  is_new = (x.amount old_devices == 0) && not (x.amount new_devices == 0);
  is_taken = not (x.amount takes == 0);
}

-- the two ways in which a class can have changed: the total weight of its devices differs, or it is new and no rule takes it
abbrev pub is_reweighed : ClassChangeData → Bool
is_reweighed x = not (x.was == x.is)

abbrev pub is_untaken : ClassChangeData → Bool
is_untaken x = x.is_new && not x.is_taken

abbrev pub if_changed : ClassChangeData → List ClassChangeData
if_changed x = if is_reweighed x || is_untaken x then x ∷ [] else []

abbrev pub change_of_class : ClassData → List ClassChangeData
change_of_class x = if_changed (class_change x)

-- CLASS CHANGES: each class that has changed in at least one of these ways, by name in ascending order
abbrev pub class_changes : List Row → List Row → List RuleData → List ClassChangeData
class_changes t u rules = flat_map change_of_class (classes t u rules)

-- LINES: the line of a class if the total weight of its devices differs
unfoldable pub class_line : ClassChangeData → List ℕ
class_line x = codes "class " ++ x.name ++ codes " weighed " ++ weight_text x.was ++ codes ", weighs " ++ weight_text x.is ++ codes "\n"

abbrev pub reweighed_line : ClassChangeData → List ℕ
reweighed_line x = if is_reweighed x then class_line x else []

-- the line of a new class that no rule takes
unfoldable pub untaken_text : List ℕ → List ℕ
untaken_text name = codes "class " ++ name ++ codes " is new, and no rule takes it\n"

abbrev pub untaken_line : ClassChangeData → List ℕ
untaken_line x = if is_untaken x then untaken_text x.name else []

-- first the lines of all classes whose total weight differs, and then the lines of all new classes that no rule takes
abbrev pub lines_of_classes : List ClassChangeData → List ℕ
lines_of_classes xs = flat_map reweighed_line xs ++ flat_map untaken_line xs

unfoldable pub class_lines : List Row → List Row → SettingData → List ℕ
class_lines t u new = lines_of_classes (class_changes t u new.rules)
