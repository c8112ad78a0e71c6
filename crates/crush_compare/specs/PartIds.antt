-- The ids of an item and of all items that are below this item in at least one of two tables.
use Rattle.std.specs.Prelude.{List, ◌++◌, flat_map, length, map}
use Rattle.crush_units.specs.declared.id.ItemId.{ItemId}
use Rattle.crush_units.specs.declared.id.ItemId.TheVariants.{Device, Bucket}
use Rattle.crush_model.specs.Table.{Row, bucket_ids}
use Rattle.crush_items.specs.Order.{ascending, device_number}
use Rattle.crush_items.specs.Tree.{WalkStepData, steps_at}
use Rattle.crush_compare.specs.AllIds.{once}

-- the ids of a list, each once: buckets from -1 downward, and then devices upward
unfoldable pub each_once : List ItemId → List ItemId
each_once is = map Bucket (once (ascending (flat_map bucket_ids is))) ++ map Device (once (ascending (flat_map device_number is)))

-- the ids that a walk from an item downward visits: the ids of the item and of all items below it
abbrev pub step_ids : List WalkStepData → List ItemId
step_ids steps = map (λ (s : WalkStepData). s.item.id) steps

abbrev pub ids_below : List Row → ItemId → List ItemId
ids_below t i = step_ids (steps_at t (length t) 0 i)

-- PART IDS: the id of the item i and the ids of all items that are below i in at least one of the tables, each once
unfoldable pub part_ids : List Row → List Row → ItemId → List ItemId
part_ids t u i = each_once (ids_below t i ++ ids_below u i)
