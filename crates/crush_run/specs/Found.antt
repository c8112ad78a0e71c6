-- The item, the type and the class that the command line names, in the map after the scripts.
use Rattle.std.specs.Prelude.{◌≡◌, List, Bool, true, false, ℕ, Option, None, Some, Result, Ok, Err, is_some, ◌&&◌, ◌||◌}
use Rattle.crush_units.specs.declared.id.ItemId.{ItemId}
use Rattle.crush_model.specs.Forest.{rows_of}
use Rattle.crush_model.specs.Table.{Row, id_named, is_named}
use Rattle.crush_edits.specs.Setting.{SettingData, kind_number}
use Rattle.crush_print.specs.ClassWeights.{is_class}
use Rattle.crush_print.specs.declared.part.TreePart.{TreePart}
use Rattle.crush_options.specs.declared.parsed_options.TreePartSpec.{TreePartSpec}
use Rattle.crush_input.specs.declared.output.Output.{Output}
use Rattle.crush_input.specs.declared.output.Output.TheVariants as output
use Rattle.crush_input.specs.declared.fault.RunFault.{RunFault}
use Rattle.crush_input.specs.declared.fault.RunFault.TheVariants as run
use Rattle.crush_input.specs.Options.{name_text}

-- the name of the item to which the output is restricted, if there is one
abbrev pub under_of : Output → Option (List ℕ)
under_of (output.Tree part) = name_text part.under
under_of (output.Since old) = name_text old.under
under_of (output.Changes old) = name_text old.part.under
under_of (output.To target) = name_text target.under
under_of what = None

-- the name of a type, if the tree leaves out what is below the buckets of this type; otherwise none
abbrev pub down_to_of : Output → Option (List ℕ)
down_to_of (output.Tree part) = name_text part.down_to
down_to_of (output.Changes old) = name_text old.part.down_to
down_to_of what = None

-- the name of a class, if only the devices of this class count in the tree; otherwise none
abbrev pub class_of : Output → Option (List ℕ)
class_of (output.Tree part) = name_text part.class
class_of (output.Changes old) = name_text old.part.class
class_of what = None

-- the id of the item with this name in the table t; none if no name is given or no item has the name
abbrev pub named_item : List Row → Option (List ℕ) → Option ItemId
named_item t None = None
named_item t (Some name) = id_named t name

-- the number of the type with this name in the setting s; none if no name is given or no type has the name
abbrev pub named_kind : SettingData → Option (List ℕ) → Option ℕ
named_kind s None = None
named_kind s (Some name) = kind_number s name

-- THE PART OF THE TREE that the command line selects: the item's id and the type's number instead of their names
abbrev pub part_of : TreePartSpec → SettingData → List Row → TreePart
part_of words s t = record { under = named_item t (name_text words.under); down_to = named_kind s (name_text words.down_to) }

-- whether the table has an item with the name; true if no name is given
abbrev pub has_item : Option (List ℕ) → List Row → Bool
has_item None t = true
has_item (Some name) t = is_named t name

-- whether the setting has a type with the name; true if no name is given
abbrev pub has_kind : Option (List ℕ) → SettingData → Bool
has_kind None s = true
has_kind (Some name) s = is_some (kind_number s name)

-- whether a device of the table has the class; true if no class is given
abbrev pub has_class : Option (List ℕ) → List Row → Bool
has_class None t = true
has_class (Some name) t = is_class t name

-- whether a class is given for a tree of what has changed, and a device of the old map has this class
abbrev pub had_class : Output → Bool
had_class (output.Changes old) = is_some (name_text old.part.class) && has_class (name_text old.part.class) (rows_of old.map.forest)
had_class what = false

-- whether a device of the table has the given class, or no class is given. For a tree of what has changed, it is enough that a device of the old map has the class
abbrev pub has_class_of : Output → List Row → Bool
has_class_of what t = has_class (class_of what) t || had_class what

-- the item, the type and the class exist, if their names are given. For a tree of what has changed, it is enough that the class exists in the old map
pub record AreThere (what : Output) (s : SettingData) (t : List Row) : Type 0 where
  pub item : has_item (under_of what) t ≡ true
  pub kind : has_kind (down_to_of what) s ≡ true
  pub class : has_class_of what t ≡ true

-- FOUND: the result of a run agrees with the names of the item, the type and the class. If the run succeeds, fails to write, or ends because differences remain after its plan, then all of them exist (`AreThere`). If it ends with NoItem, then no item has the name. If it ends with NoType, then the item exists and no type has the name. If it ends with NoClass, then the item and the type exist and no device has the class (`has_class_of`). The definition says nothing about any other end.
abbrev pub IsFound : {X : Type 0} → Output → SettingData → List Row → Result X RunFault → Type 0
IsFound what s t (Ok x) = AreThere what s t
IsFound what s t (Err run.Write) = AreThere what s t
IsFound what s t (Err (run.Differs n)) = AreThere what s t
IsFound what s t (Err run.NoItem) = has_item (under_of what) t ≡ false
IsFound what s t (Err run.NoType) = (has_item (under_of what) t ≡ true) × (has_kind (down_to_of what) s ≡ false)
IsFound what s t (Err run.NoClass) = (has_item (under_of what) t ≡ true) × (has_kind (down_to_of what) s ≡ true) × (has_class_of what t ≡ false)
IsFound what s t (Err fault) = Unit {0}

-- the faults of the search for names: NoItem, NoType or NoClass
abbrev pub IsFindFault : RunFault → Type 0
IsFindFault run.NoItem = Unit {0}
IsFindFault run.NoType = Unit {0}
IsFindFault run.NoClass = Unit {0}
IsFindFault fault = ⊥
