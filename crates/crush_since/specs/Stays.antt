-- The lines that say what differs between a map and a wanted map if items are matched by their names. docs/dev/names.md describes them in words.
use Rattle.std.specs.Prelude.{ℕ, Bool, List, [], ◌∷◌, ◌++◌, Option, None, Some, Vec, map, flat_map, codes, bytes_eq, unwrap_or}
use Rattle.std.specs.Cmp.Lexicographic.{pointwise}
use Rattle.crush_units.specs.declared.id.ItemId.{ItemId}
use Rattle.crush_units.specs.declared.id.ItemId.TheVariants.{Device, Bucket}
use Rattle.crush_units.specs.Weight.{weight_text}
use Rattle.crush_edits.specs.Setting.{SettingData}
use Rattle.crush_compare.specs.Equal.{same_text}
use Rattle.crush_items.specs.ItemData.{ItemData}
use Rattle.crush_compare.specs.NamedColumns.{same_type}
use Rattle.crush_compare.specs.SameItem.{same_algs}
use Rattle.crush_compare.specs.Weights.{same_weight}
use Rattle.crush_since.specs.ItemParts.{part, behind}
use Rattle.crush_since.specs.ItemWords.{type_word, class_or_none, alg_word}
use Rattle.crush_since.specs.Settings.{same_kinds, same_tunable}
use Rattle.crush_since.specs.Since.{PlainMap}
use Rattle.crush_compare.specs.declared.identity.Devices.TheVariants.{ById}
use Rattle.crush_since.specs.NamedRules.{named_rules_line}
use Rattle.crush_compare.specs.NamedPairs.{PairData, pairs}

-- the place of an item: the name of its parent, or a word for an item that has no parent
abbrev pub place_in : ItemId → Option ℕ → Option (List ℕ) → List ℕ
place_in i (Some p) holder = unwrap_or holder []
place_in (Device d) None holder = codes "(unplaced)"
place_in (Bucket b) None holder = codes "(root)"

unfoldable pub place_word : ItemData → List ℕ
place_word x = place_in x.view.id x.view.parent x.holder

abbrev pub item_type : SettingData → ItemData → List ℕ
item_type s x = type_word s x.view.id x.view.kind

-- whether two items are in the same place: they have parents with the same name, or both are buckets without a parent, or both are devices without a parent
unfoldable pub same_place : ItemData → ItemData → Bool
same_place x y = bytes_eq (place_word x) (place_word y)

-- PARTS: the part `WORD A, wanted B`, or with another text `between` in place of `, wanted `. There is no part if `same` is true, which says that the column is the same in both maps
abbrev pub both : Bool → List ℕ → List ℕ → List ℕ → List ℕ → List (List ℕ)
both same word a between b = part same (word ++ a ++ between ++ b)

abbrev pub both_types : List ℕ → SettingData → SettingData → ItemData → ItemData → List (List ℕ)
both_types between s p x y = both (same_type x.view.id (item_type s x) (item_type p y)) (codes "type ") (item_type s x) between (item_type p y)

abbrev pub both_places : List ℕ → List ℕ → ItemData → ItemData → List (List ℕ)
both_places word between x y = both (same_place x y) word (place_word x) between (place_word y)

abbrev pub both_weights : Bool → List ℕ → ItemData → ItemData → List (List ℕ)
both_weights same between x y = both same (codes "weight ") (weight_text x.view.weight) between (weight_text y.view.weight)

abbrev pub both_classes : List ℕ → ItemData → ItemData → List (List ℕ)
both_classes between x y = both (same_text x.view.class y.view.class) (codes "class ") (class_or_none x.view.class) between (class_or_none y.view.class)

abbrev pub both_algs : List ℕ → ItemData → ItemData → List (List ℕ)
both_algs between x y = both (same_algs x.view.alg y.view.alg) (codes "alg ") (alg_word x.view.alg) between (alg_word y.view.alg)

-- for each column, the part if the map and the wanted map differ in this column
abbrev pub type_part : SettingData → SettingData → ItemData → ItemData → List (List ℕ)
type_part s p x y = both_types (codes ", wanted ") s p x y

abbrev pub place_part : ItemData → ItemData → List (List ℕ)
place_part x y = both_places (codes "in ") (codes ", wanted in ") x y

abbrev pub weight_part : ItemData → ItemData → List (List ℕ)
weight_part x y = both_weights (same_weight x.view.id x.view.weight y.view.weight) (codes ", wanted ") x y

abbrev pub class_part : ItemData → ItemData → List (List ℕ)
class_part x y = both_classes (codes ", wanted ") x y

abbrev pub alg_part : ItemData → ItemData → List (List ℕ)
alg_part x y = both_algs (codes ", wanted ") x y

-- the parts of the line of an item that both maps have: one part for each column that differs
abbrev pub differing : SettingData → SettingData → ItemData → ItemData → List (List ℕ)
differing s p x y = type_part s p x y ++ place_part x y ++ weight_part x y ++ class_part x y ++ alg_part x y

-- the words for an item's wanted type and wanted place
unfoldable pub wanted_word : SettingData → ItemData → List ℕ
wanted_word p y = item_type p y ++ codes " in " ++ place_word y

abbrev pub lacking : SettingData → ItemData → List (List ℕ)
lacking p y = (codes "wanted as " ++ wanted_word p y) ∷ []

-- the parts of the line of an item of the wanted map, given the item of the map that matches it, if there is one
abbrev pub wanted_parts : SettingData → SettingData → Option ItemData → ItemData → List (List ℕ)
wanted_parts s p None y = lacking p y
wanted_parts s p (Some x) y = differing s p x y

-- the parts of the line of a pair. A pair has an item of the wanted map, with the map's matching item if there is one, or an item that only the map has
abbrev pub stay_parts : SettingData → SettingData → Option ItemData → Option ItemData → List (List ℕ)
stay_parts s p before (Some y) = wanted_parts s p before y
stay_parts s p (Some x) None = codes "not wanted" ∷ []
stay_parts s p None None = []

-- the name of a pair's item: the wanted map's name or, if only the map has the item, the map's name
abbrev pub pair_name : Option ItemData → Option ItemData → List ℕ
pair_name before (Some y) = y.view.name
pair_name (Some x) None = x.view.name
pair_name None None = []

-- LINES without their line feeds. The line of an item is the item's name, followed by the parts with `; ` between them. There is no line if there are no parts
abbrev pub stay_line : List ℕ → List (List ℕ) → List (List ℕ)
stay_line name [] = []
stay_line name (p ∷ rest) = (name ++ codes ": " ++ (p ++ behind rest)) ∷ []

-- the line of an item, given the parts as one text in which `; ` comes before each part
abbrev pub stay_text_line : List ℕ → List ℕ → List (List ℕ)
stay_text_line name [] = []
stay_text_line name (b ∷ []) = []
stay_text_line name (b ∷ c ∷ text) = (name ++ codes ": " ++ text) ∷ []

-- the text of some lines: each line is followed by a line feed
abbrev pub text_of_lines : List (List ℕ) → List ℕ
text_of_lines lines = flat_map (λ line. line ++ codes "\n") lines

-- the lines of a list of vectors of bytes, as plain data
abbrev pub line_texts : {Z : Type 0} → List (Vec ℕ Z) → List (List ℕ)
line_texts lines = map (λ line. line.items) lines

unfoldable pub stay_pair : SettingData → SettingData → PairData → List (List ℕ)
stay_pair s p pair = stay_line (pair_name pair.before pair.after) (stay_parts s p pair.before pair.after)

-- the lines of the items of the part that the name `under` selects, or of all items if no name is given: first the lines of the wanted map's items in the order of the wanted map's tree, and then the lines of the items that only the map has, in the order of the map's tree
unfoldable pub stay_lines : Option (List ℕ) → PlainMap → PlainMap → List (List ℕ)
stay_lines under old new = flat_map (stay_pair old.setting new.setting) (pairs ById under old.table new.table)

unfoldable pub named_setting_lines : PlainMap → PlainMap → List (List ℕ)
named_setting_lines old new =
    part (pointwise same_tunable old.setting.tunables new.setting.tunables) (codes "tunables differ") ++ part (same_kinds old.setting new.setting) (codes "types differ")
    ++ named_rules_line old new

-- the lines about settings; none if only a part of the maps is compared
abbrev pub settings_beside : Option (List ℕ) → PlainMap → PlainMap → List (List ℕ)
settings_beside None old new = named_setting_lines old new
settings_beside (Some n) old new = []

-- STAYS: a line for each item of the part that differs. If no part is given, this list covers all items, and lines about tunables, types and rules that differ follow
unfoldable pub stays_part : Option (List ℕ) → PlainMap → PlainMap → List (List ℕ)
stays_part under old new = stay_lines under old new ++ settings_beside under old new

abbrev pub stays : PlainMap → PlainMap → List (List ℕ)
stays old new = stays_part None old new
