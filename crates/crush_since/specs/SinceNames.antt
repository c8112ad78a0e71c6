-- The text that says what has changed from one map to another if items are matched by their names. docs/dev/names.md describes it in words.
use Rattle.std.specs.Prelude.{ℕ, ◌==◌, Bool, List, [], ◌∷◌, ◌++◌, Option, None, Some, Result, Ok, Err, flat_map, codes}
use Rattle.std.specs.Io.KnownBytes.{Appends}
use Rattle.crush_units.specs.Weight.{weight_text}
use Rattle.crush_units.specs.Writes.{AppendsLess}
use Rattle.crush_units.specs.declared.write.WriteFault.{WriteFault}
use Rattle.crush_units.specs.declared.write.WriteFault.TheVariants.{Write, OutOfMemory}
use Rattle.crush_model.specs.Table.{total}
use Rattle.crush_edits.specs.Setting.{SettingData}
use Rattle.crush_since.specs.Changes.{has_some}
use Rattle.crush_items.specs.ItemData.{ItemData}
use Rattle.crush_since.specs.ItemWords.{with_class}
use Rattle.crush_compare.specs.declared.identity.Identity.TheVariants.{Names}
use Rattle.crush_since.specs.RuleChanges.{lines_beside_part}
use Rattle.crush_since.specs.Since.{PlainMap, totals_line}
use Rattle.crush_since.specs.Tallies.{counts_line}
use Rattle.crush_compare.specs.declared.identity.Devices.TheVariants.{ByName}
use Rattle.crush_since.specs.CountedByName.{tally_by_name}
use Rattle.crush_compare.specs.NamedPairs.{PairData, pairs}
use Rattle.crush_since.specs.Stays.{both_types, both_places, both_weights, both_classes, both_algs, pair_name, stay_line, text_of_lines, wanted_word}

-- the words for an item that only one of the maps has
unfoldable pub whole_word : SettingData → ItemData → List ℕ
whole_word s x = wanted_word s x ++ codes ", weight " ++ weight_text x.view.weight ++ with_class x.view.class

abbrev pub other_weights : ItemData → ItemData → List (List ℕ)
other_weights x y = both_weights (x.view.weight == y.view.weight) (codes " to ") x y

-- PARTS of the line of an item that both maps have: one part for each column that differs
abbrev pub changed : SettingData → SettingData → ItemData → ItemData → List (List ℕ)
changed s p x y =
    both_types (codes " to ") s p x y ++ both_places (codes "from ") (codes " to ") x y ++ other_weights x y
    ++ both_classes (codes " to ") x y ++ both_algs (codes " to ") x y

abbrev pub changed_parts : SettingData → SettingData → Option ItemData → Option ItemData → List (List ℕ)
changed_parts s p None (Some y) = (codes "made as " ++ whole_word p y) ∷ []
changed_parts s p (Some x) (Some y) = changed s p x y
changed_parts s p (Some x) None = (codes "removed, was " ++ whole_word s x) ∷ []
changed_parts s p None None = []

-- LINES: the line of an item. It is the item's name, followed by the parts with `; ` between them. There is no line if there are no parts
unfoldable pub changed_pair : SettingData → SettingData → PairData → List ℕ
changed_pair s p pair = text_of_lines (stay_line (pair_name pair.before pair.after) (changed_parts s p pair.before pair.after))

-- the lines of the items of the part that the name `under` selects, or of all items if no name is given: first the lines of the new map's items in the order of the new map's tree, and then the lines of the items that only the old map has, in the order of the old map's tree
unfoldable pub changed_lines : Option (List ℕ) → PlainMap → PlainMap → List ℕ
changed_lines under old new = flat_map (changed_pair old.setting new.setting) (pairs ByName under old.table new.table)

-- OF A PART: the lines of the part's items. If whole maps are compared, the lines about tunables, types, rules and classes follow. The buckets that rules take are compared by their names
unfoldable pub since_names_part : Option (List ℕ) → PlainMap → PlainMap → List ℕ
since_names_part under old new = changed_lines under old new ++ lines_beside_part (Names ByName) under old new

-- BY NAMES: the text of `since_names_part` for whole maps, followed by the line of totals and the line of counts
unfoldable pub since_names_text : PlainMap → PlainMap → List ℕ
since_names_text old new = since_names_part None old new ++ totals_line (total old.table) (total new.table) ++ counts_line (tally_by_name old.table new.table)

-- if a name is given, this says whether there is a line about the item with this name or about an item below it. Otherwise it says whether there is any line about items, tunables, types, rules or classes
abbrev pub is_changed_by_name : Option (List ℕ) → PlainMap → PlainMap → Bool
is_changed_by_name under old new = has_some (since_names_part under old new)

-- WRITTEN: what the writer has received. After success it is the whole text. After a failed write it is a proper prefix of the text. If memory ran out, it is nothing. The text may be empty
abbrev pub WritesOrNothing : {X : Type 0} → Result X WriteFault → Option (List ℕ) → Option (List ℕ) → List ℕ → Type 0
WritesOrNothing (Ok x) old new text = Appends old new text
WritesOrNothing (Err Write) old new text = AppendsLess old new text
WritesOrNothing (Err OutOfMemory) old new text = Appends old new []
