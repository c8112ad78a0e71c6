use Rattle.std.proofs.Common.{◌≡◌, ◌++◌, take}
use Rattle.crush_nodes.specs.Seen.{items_of}
use Rattle.crush_print.specs.ItemsText.{item_lines}
use Rattle.crush_print.proofs.lines.push_items.Given as goal

abbrev pub invariant-loop-node : goal.invariant-loop-node
invariant-loop-node g l = l.out.items ≡ l.fn.out.items ++ item_lines l.form (items_of (take l.node-index l.items))
