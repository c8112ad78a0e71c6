-- The text of the tree of a map. docs/user/FORMATS.md describes it in words.
use Rattle.std.specs.Prelude.{◌≡◌, ℕ, ◌*◌, ◌-◌, List, [], ◌∷◌, ◌++◌, length, min, max, replicate, codes, flat_map, unwrap_or}
use Rattle.crush_units.specs.declared.id.ItemId.{ItemId}
use Rattle.crush_units.specs.declared.id.ItemId.TheVariants.{Device, Bucket}
use Rattle.crush_units.specs.Weight.{weight_text}
use Rattle.crush_model.specs.Lawful.{Lawful}
use Rattle.crush_model.specs.Same.{Same}
use Rattle.crush_model.specs.Table.{Row}
use Rattle.crush_edits.specs.Setting.{SettingData}
use Rattle.crush_print.specs.Lines.{id_text}
use Rattle.crush_print.specs.MapText.{kind_text}
use Rattle.crush_items.specs.Tree.{WalkStepData, tree_rows}
use Rattle.crush_print.specs.declared.tree.Widths.{Widths}

-- n spaces
abbrev pub spaces : ℕ → List ℕ
spaces n = replicate n 32

-- the word at the right end of a column of this width; a word that is longer than the column is not cut
unfoldable pub at_right : ℕ → List ℕ → List ℕ
at_right width word = spaces (width - length word) ++ word

-- the word at the left end of a column of this width; a word that is longer than the column is not cut
unfoldable pub at_left : ℕ → List ℕ → List ℕ
at_left width word = word ++ spaces (width - length word)

-- the word of the first column: the item's id
abbrev pub id_word : WalkStepData → List ℕ
id_word s = id_text s.item.id

-- the word of the second column: the item's class, or nothing if it has no class
abbrev pub class_word : WalkStepData → List ℕ
class_word s = unwrap_or s.item.class []

-- the word of the third column: the item's weight
abbrev pub weight_word : WalkStepData → List ℕ
weight_word s = weight_text s.item.weight

-- the greatest of the number `least` and the lengths of all words
abbrev pub widest : {X : Type 0} → (X → List ℕ) → ℕ → List X → ℕ
widest word least [] = least
widest word least (x ∷ xs) = widest word (max least (length (word x))) xs

-- the widths of the first three columns: the smallest widths in which the headings and all words fit
abbrev pub widths_of : List WalkStepData → Widths
widths_of steps = record { id = widest id_word 2 steps; class = widest class_word 5 steps; weight = widest weight_word 6 steps }

-- a line of these four words, with two spaces between them
abbrev pub row_text : List ℕ → List ℕ → List ℕ → List ℕ → List ℕ
row_text id class weight name = id ++ codes "  " ++ class ++ codes "  " ++ weight ++ codes "  " ++ name ++ codes "\n"

-- the indent of an item of this depth: four spaces for each level, but at most 64 spaces
abbrev pub indent : ℕ → List ℕ
indent depth = spaces (4 * min depth 16)

-- the name of a bucket's type and a space; nothing for a device
abbrev pub kind_prefix : SettingData → ItemId → ℕ → List ℕ
kind_prefix s (Device d) kind = []
kind_prefix s (Bucket b) kind = kind_text s kind ++ codes " "

-- the line of an item
unfoldable pub step_line : SettingData → Widths → WalkStepData → List ℕ
step_line s w x =
    row_text (at_right w.id (id_word x)) (at_right w.class (class_word x)) (at_right w.weight (weight_word x))
    (indent x.depth ++ kind_prefix s x.item.id x.item.kind ++ x.item.name)

-- the line of the headings
unfoldable pub heading : Widths → List ℕ
heading w = row_text (at_left w.id (codes "ID")) (at_left w.class (codes "CLASS")) (at_left w.weight (codes "WEIGHT")) (codes "TYPE NAME")

-- the heading and a line for each step, in columns that are wide enough for all of them
unfoldable pub steps_text : SettingData → List WalkStepData → List ℕ
steps_text s steps = heading (widths_of steps) ++ flat_map (step_line s (widths_of steps)) steps

-- TREE TEXT: the text of the tree of a map with this setting and this table
unfoldable pub tree_text : SettingData → List Row → List ℕ
tree_text s t = steps_text s (tree_rows t)

-- the law: if a lawful table t has the same rows as the table u, except for their order, then for every setting both tables have the same tree text
abbrev pub SameTablesHaveOneTree : Type 0
SameTablesHaveOneTree = (s : SettingData) (t u : List Row) → Lawful t → Same t u → tree_text s t ≡ tree_text s u
