-- The positions of the items in the part that a name selects.
use Rattle.std.specs.Prelude.{◌≡◌, ℕ, true, false, List, Option, Some}
use Rattle.std.specs.Option.{option_map_or}
use Rattle.crush_units.specs.declared.id.ItemId.{ItemId}
use Rattle.crush_model.specs.Table.{Row, is_there}
use Rattle.crush_items.specs.Entries.{EntryData}
use Rattle.crush_items.specs.ItemData.{ItemData}
use Rattle.crush_items.specs.declared.run.Run.{Run}
use Rattle.crush_compare.specs.Named.{is_at}
use Rattle.crush_compare.specs.NamedPairs.{is_found_in}
use Rattle.crush_compare.specs.PairItems.{item_at}
use Rattle.crush_compare.specs.Within.{is_within}

-- PART: a position of the list es is in the run if and only if its item is in the part that the name n selects
abbrev pub IsPartOf : List ℕ → List Row → List EntryData → Run → Type 0
IsPartOf n t es run = (at : Option ℕ) → is_within run at ≡ is_found_in (Some n) t (item_at es at)

-- if the table has the item i, the positions in the run are exactly the positions of i and of all items below i
abbrev pub AreAt : ItemId → List Row → List EntryData → Run → Type 0
AreAt i t es run = is_there t i ≡ true → (at : Option ℕ) → is_within run at ≡ option_map_or (λ (x : ItemData). is_at t i x.view.id) (item_at es at) false
