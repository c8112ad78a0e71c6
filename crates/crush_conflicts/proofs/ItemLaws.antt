-- What a table has of an item: whether it is there, and its name.
use Rattle.std.proofs.Common.{◌≡◌, List, refl, ap, sym, ◌∙◌}
use Rattle.std.specs.Prelude.{ℕ, Option, None, Some, is_some}
use Rattle.std.specs.Option.{option_map}
use Rattle.crush_units.specs.declared.id.ItemId.{ItemId}
use Rattle.crush_model.specs.Table.{Row, is_there, name_of, row_of}
use Rattle.crush_items.specs.ItemData.{ItemData, item_of, row_item}
use Rattle.crush_items.specs.SeenItem.{seen_data}
use Rattle.crush_items.specs.declared.seen.Seen.{Seen}

some_item : (t : List Row) (o : Option Row) → is_some (option_map (row_item t) o) ≡ is_some o
some_item t None = refl
some_item t (Some r) = refl

some_seen : (o : Option Seen) → is_some (option_map seen_data o) ≡ is_some o
some_seen None = refl
some_seen (Some x) = refl

pub seen_there : (t : List Row) (i : ItemId) (o : Option Seen) → option_map seen_data o ≡ item_of t i → is_some o ≡ is_there t i
seen_there t i o is = sym (some_seen o) ∙ ap is_some is ∙ some_item t (row_of t i)

abbrev item_name : ItemData → List ℕ
item_name x = x.view.name

item_named : (t : List Row) (o : Option Row) → option_map item_name (option_map (row_item t) o) ≡ option_map (λ (r : Row). r.name) o
item_named t None = refl
item_named t (Some r) = refl

pub seen_named : (t : List Row) (i : ItemId) (o : Option Seen) → option_map seen_data o ≡ item_of t i → option_map item_name (option_map seen_data o) ≡ name_of t i
seen_named t i o is = ap (option_map item_name) is ∙ item_named t (row_of t i)
