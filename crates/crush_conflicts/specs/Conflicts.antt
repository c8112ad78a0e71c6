-- The lost changes of a run with several scripts, as text. The table t is the table before the run, and the table z is the table after the run.
use Rattle.std.specs.Prelude.{◌≡◌, ℕ, ◌++◌, suc, ◌+◌, List, [], ◌∷◌, Option, None, flat_map, map}
use Rattle.crush_model.specs.Table.{Row}
use Rattle.crush_edits.specs.Setting.{SettingData}
use Rattle.crush_history.specs.History.{EntryData}
use Rattle.crush_items.specs.ItemData.{ItemData, item_of}
use Rattle.crush_items.specs.Tree.{WalkStepData, tree_rows}
use Rattle.crush_conflicts.specs.Alone.{table_of_operator}
use Rattle.crush_conflicts.specs.Cases.{CaseData, FoundData}
use Rattle.crush_conflicts.specs.Lines.{case_line}
use Rattle.crush_conflicts.specs.NewItems.{AreNewNames, each_once, new_item}

-- an operator: its name, and its table, which results if only the operator's script runs
pub record OperatorData : Type 0 where
  pub name : List ℕ
  pub table : List Row

-- the operators with these names and with their tables. The first name is the name of operator k of the history h, and the next names are those of the next operators
abbrev pub operators_from : SettingData → List Row → List EntryData → ℕ → List (List ℕ) → List OperatorData
operators_from s t h k [] = []
operators_from s t h k (n ∷ ns) = record { name = n; table = table_of_operator s t h k } ∷ operators_from s t h (k + 1) ns

-- what an operator's table says about an item. The function `find` finds the item in a table
abbrev pub found_by : (List Row → Option ItemData) → OperatorData → FoundData
found_by find o = record { name = o.name; item = find o.table }

-- what all tables say about an item of the table t. The item is looked up by its id in each table
unfoldable pub old_case : List Row → List OperatorData → List Row → WalkStepData → CaseData
old_case t os z step = record { name = step.item.name; before = item_of t step.item.id; alone = map (found_by (λ u. item_of u step.item.id)) os; after = item_of z step.item.id }

-- what all tables say about a new item, which the table t doesn't have. The item is looked up by its name in each of the other tables
unfoldable pub new_case : List Row → List OperatorData → List Row → List ℕ → CaseData
new_case t os z n = record { name = n; before = None; alone = map (found_by (λ u. new_item t u n)) os; after = new_item t z n }

-- the lines of the items of t that have a lost change, in the order of the tree of t
unfoldable pub old_lines : SettingData → List Row → List OperatorData → List Row → List ℕ
old_lines s t os z = flat_map (λ step. case_line s t (old_case t os z step)) (tree_rows t)

-- the lines of the new items that have these names and a lost change
unfoldable pub new_lines : SettingData → List Row → List OperatorData → List Row → List (List ℕ) → List ℕ
new_lines s t os z names = flat_map (λ n. case_line s t (new_case t os z n)) names

abbrev pub tables_of : List OperatorData → List (List Row)
tables_of os = map (λ (o : OperatorData). o.table) os

-- CONFLICTS: the text has a line for each item with a lost change. First come the lines of the items of t, in the order of the tree of t. The lines of the new items follow, in ascending order of their names
pub record AreConflicts (s : SettingData) (t : List Row) (os : List OperatorData) (z : List Row) (text : List ℕ) : Type 0 where
  pub names : List (List ℕ)
  pub new : AreNewNames t (tables_of os) names
  pub lines : text ≡ old_lines s t os z ++ new_lines s t os z (each_once None names)
