-- The Rust types Case and Found as plain data.
use Rattle.std.specs.Prelude.{ℕ, List, Option, map}
use Rattle.crush_items.specs.ItemData.{ItemData}
use Rattle.std.specs.Option.{option_map}
use Rattle.crush_items.specs.Items.{item_entry}
use Rattle.crush_items.specs.SeenItem.{seen_data}
use Rattle.crush_conflicts.specs.Cases.{CaseData, FoundData}
use Rattle.crush_conflicts.specs.declared.cases.Case.{Case}
use Rattle.crush_conflicts.specs.declared.cases.Found.{Found}

abbrev pub found_of : List ℕ → Option ItemData → FoundData
found_of name item = record { name = name; item = item }

abbrev pub found_data : {A : _} → Found A → FoundData
found_data x = record { name = x.name.now; item = option_map (λ i. (item_entry i.now).item) x.item }

abbrev pub case_data : {A : _} → Case A → CaseData
case_data c = record { name = c.name.now; before = option_map seen_data c.before; alone = map found_data c.alone.items; after = option_map seen_data c.after }
