-- The pairs whose item is in a run of positions of at least one of two maps.
use Rattle.std.specs.Prelude.{◌≡◌, ℕ, Bool, false, ◌&&◌, ◌||◌, nat_le, nat_lt, List, Option, None, Some}
use Rattle.std.specs.List.{slice_get}
use Rattle.crush_units.specs.declared.id.ItemId.{ItemId}
use Rattle.crush_model.specs.Table.{Row}
use Rattle.crush_items.specs.Entries.{EntryData}
use Rattle.crush_items.specs.Items.{entry_id}
use Rattle.crush_items.specs.declared.run.Run.{Run}
use Rattle.crush_compare.specs.Named.{is_at}
use Rattle.crush_compare.specs.declared.by_id.Pair.{Pair}

-- whether the second argument is a position that is in the run
abbrev pub is_within : Run → Option ℕ → Bool
is_within run None = false
is_within run (Some at) = nat_le run.from at && nat_lt at run.to

-- whether the pair's position in the old map is in the run `old`, or its position in the new map is in the run `new`
abbrev pub has_item_within : Run → Run → Pair → Bool
has_item_within old new p = is_within old p.before || is_within new p.after

-- A RUN of the item i: a position of the list es is in the run if and only if the table says that the item at this position is i or below i
abbrev pub IsRunOf : List Row → List EntryData → ItemId → Run → Type 0
IsRunOf t es i run = (at : ℕ) (e : EntryData) → slice_get es at ≡ Some e → is_within run (Some at) ≡ is_at t i (entry_id e)
