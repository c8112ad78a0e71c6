-- A line of a tree as plain data.
use Rattle.crush_nodes.specs.SeenView.{view_data}
use Rattle.crush_items.specs.Tree.{WalkStepData}
use Rattle.crush_print.specs.declared.tree_line.TreeLine.{TreeLine}

-- the line as plain data: the step that it shows
abbrev pub line_data : TreeLine → WalkStepData
line_data l = record { depth = l.depth; item = view_data l.view }
