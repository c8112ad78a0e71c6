use Rattle.std.proofs.Common.{◌≡◌, ◌++◌, List, map, take}
use Rattle.std.specs.Prelude.{flat_map}
use Rattle.crush_model.specs.Stands.{Stands}
use Rattle.crush_model.specs.Table.{Row}
use Rattle.crush_items.specs.Items.{item_step}
use Rattle.crush_conflicts.specs.NewItems.{new_name}
use Rattle.crush_conflicts.proofs.new_items.push_new_names.Given as goal

-- the names of the items so far
abbrev pub invariant-loop-item : goal.invariant-loop-item
invariant-loop-item g l = (t : List Row) → Stands l.before t → map (λ n. n.now) l.names.items ≡ map (λ n. n.now) l.fn.names.items ++ flat_map (λ x. new_name t (item_step x)) (take l.item-index l.items)
