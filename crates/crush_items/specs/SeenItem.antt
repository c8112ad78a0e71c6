-- How contracts describe a `Seen`: what a map says about an item, as plain data.
use Rattle.std.specs.Option.{option_map}
use Rattle.crush_nodes.specs.SeenView.{view_data}
use Rattle.crush_items.specs.ItemData.{ItemData}
use Rattle.crush_items.specs.declared.seen.Seen.{Seen}

abbrev pub seen_data : Seen → ItemData
seen_data x = record { view = view_data x.view; holder = option_map (λ n. n.now) x.holder }
