-- The text of an item's line, given what two maps say about the item.
use Rattle.std.specs.Prelude.{ℕ, ◌==◌, Bool, List, [], ◌∷◌, ◌++◌, Option, None, Some, if◌then◌else◌, flat_map, codes, bytes_eq}
use Rattle.crush_units.specs.declared.id.ItemId.{ItemId}
use Rattle.crush_units.specs.Weight.{weight_text}
use Rattle.crush_nodes.specs.Views.{ViewData}
use Rattle.crush_edits.specs.Setting.{SettingData}
use Rattle.crush_compare.specs.Equal.{same_option, same_text}
use Rattle.crush_compare.specs.SameItem.{same_algs}
pub use Rattle.crush_compare.specs.SameItem.{same_algs, same_class_id}
use Rattle.crush_items.specs.ItemData.{ItemData}
use Rattle.crush_since.specs.ItemWords.{item_word, place_word, type_word, class_or_none, alg_word, whole_word}

-- PARTS: a list with one element, the text about one difference. The text is one part of a line, or a whole line. If `same` is true, there is no such difference, and the list is empty
abbrev pub part : Bool → List ℕ → List (List ℕ)
part same text = if same then [] else text ∷ []

-- the part `WORD A to B`; nothing if the column is the same in both maps
abbrev pub change : Bool → List ℕ → List ℕ → List ℕ → List (List ℕ)
change same word a b = part same (word ++ a ++ codes " to " ++ b)

-- the parts of the line of an item that both maps have. There is one definition for each column, and then one for all columns
abbrev pub name_part : ViewData → ViewData → List (List ℕ)
name_part a b = part (bytes_eq a.name b.name) (codes "was " ++ a.name)

abbrev pub type_part : SettingData → SettingData → ViewData → ViewData → List (List ℕ)
type_part old new a b = change (a.kind == b.kind) (codes "type ") (type_word old a.id a.kind) (type_word new b.id b.kind)

abbrev pub place_part : ItemData → ItemData → List (List ℕ)
place_part a b = change (same_option a.view.parent b.view.parent) (codes "from ") (place_word a) (place_word b)

abbrev pub weight_part : ViewData → ViewData → List (List ℕ)
weight_part a b = change (a.weight == b.weight) (codes "weight ") (weight_text a.weight) (weight_text b.weight)

abbrev pub class_part : ViewData → ViewData → List (List ℕ)
class_part a b = change (same_text a.class b.class) (codes "class ") (class_or_none a.class) (class_or_none b.class)

abbrev pub alg_part : ViewData → ViewData → List (List ℕ)
alg_part a b = change (same_algs a.alg b.alg) (codes "alg ") (alg_word a.alg) (alg_word b.alg)

abbrev pub class_ids_part : Bool → List (List ℕ)
class_ids_part same = part same (codes "class ids")

abbrev pub changes : SettingData → SettingData → ItemData → ItemData → Bool → List (List ℕ)
changes old new a b same =
    name_part a.view b.view ++ type_part old new a.view b.view ++ place_part a b ++ weight_part a.view b.view ++ class_part a.view b.view ++ alg_part a.view b.view
    ++ class_ids_part same

-- all parts of an item's line, given what both tables say about the item's id, and whether its class ids are the same; no parts if nothing differs
abbrev pub parts : SettingData → SettingData → Option ItemData → Option ItemData → Bool → List (List ℕ)
parts old new None None same = []
parts old new None (Some b) same = (codes "made as " ++ whole_word new b) ∷ []
parts old new (Some a) None same = (codes "removed, was " ++ whole_word old a) ∷ []
parts old new (Some a) (Some b) same = changes old new a b same

-- the name that the item has in the new map, or its name in the old map if the new map doesn't have it
abbrev pub listed_name : Option ItemData → Option ItemData → List ℕ
listed_name before (Some b) = b.view.name
listed_name None None = []
listed_name (Some a) None = a.view.name

-- the text of a list of parts, with `; ` before each part
abbrev pub behind : List (List ℕ) → List ℕ
behind ps = flat_map (λ p. codes "; " ++ p) ps

-- LINES: the line of an item. It begins with `NAME (ID): `, and then has the parts with `; ` between them. There is no line if there are no parts
abbrev pub line_text : List ℕ → ItemId → List ℕ → List ℕ
line_text name i text = item_word name i ++ codes ": " ++ text ++ codes "\n"

abbrev pub line : List ℕ → ItemId → List (List ℕ) → List ℕ
line name i [] = []
line name i (p ∷ rest) = line_text name i (p ++ behind rest)

abbrev pub item_line : SettingData → SettingData → ItemId → Option ItemData → Option ItemData → Bool → List ℕ
item_line old new i before after same = line (listed_name before after) i (parts old new before after same)
