-- In which aspects an item of one table differs from the same item of another table.
use Rattle.std.specs.Prelude.{ℕ, ◌==◌, Bool, true, false, not, ◌||◌, List, Option, None, Some, if◌then◌else◌, bytes_eq}
use Rattle.crush_units.specs.declared.id.ItemId.{ItemId}
use Rattle.crush_units.specs.declared.id.ItemId.TheVariants.{Device, Bucket}
use Rattle.crush_units.specs.Id.{is_device_id}
use Rattle.crush_model.specs.Table.{Row, is_there}
use Rattle.crush_compare.specs.Equal.{same_text}
use Rattle.crush_items.specs.ItemData.{ItemData}
use Rattle.crush_conflicts.specs.declared.aspects.Aspects.{Aspects}
use Rattle.crush_conflicts.specs.Aspects.{no_aspects, only_presence}

-- whether two buckets p and q, which have the names m and n, are the same bucket. If the table t has at least one of the ids p and q, the buckets are the same if their ids are equal. Otherwise they are the same if their names are equal
abbrev pub same_bucket : List Row → ℕ → ℕ → Option (List ℕ) → Option (List ℕ) → Bool
same_bucket t p q m n = if is_there t (Bucket p) || is_there t (Bucket q) then p == q else same_text m n

-- whether two items are in the same bucket, or no bucket holds either of them
abbrev pub same_holder : List Row → Option ℕ → Option ℕ → Option (List ℕ) → Option (List ℕ) → Bool
same_holder t None None m n = true
same_holder t None (Some q) m n = false
same_holder t (Some p) None m n = false
same_holder t (Some p) (Some q) m n = same_bucket t p q m n

abbrev pub same_place : List Row → ItemData → ItemData → Bool
same_place t x y = same_holder t x.view.parent y.view.parent x.holder y.holder

-- whether the second item has the weight of the first item. The weight of the first item is v, and the weight of the second item is w. If the first item is a bucket, this is true, because a bucket has no weight of its own. A bucket never has the weight of a device
abbrev pub has_weight : ItemId → ItemId → ℕ → ℕ → Bool
has_weight (Bucket b) j v w = true
has_weight (Device d) (Bucket b) v w = false
has_weight (Device d) (Device e) v w = v == w

-- ASPECTS of an item that a table has: whether the table has the item (`presence`), its type, its place, its name and its class. A device also has the aspect weight
abbrev pub aspects_of_item : ItemData → Aspects
aspects_of_item x = record { presence = true; kind = true; place = true; weight = is_device_id x.view.id; name = true; class = true }

-- the aspects of an item; only `presence` for an item that the table doesn't have
abbrev pub aspects_of : Option ItemData → Aspects
aspects_of None = only_presence
aspects_of (Some x) = aspects_of_item x

-- the aspects of the item x for which the item y has another value, if both tables have the item
abbrev pub differences_of_items : List Row → ItemData → ItemData → Aspects
differences_of_items t x y = record {
  presence = false;
  kind = not (x.view.kind == y.view.kind);
  place = not (same_place t x y);
  weight = not (has_weight x.view.id y.view.id x.view.weight y.view.weight);
  name = not (bytes_eq x.view.name y.view.name);
  class = not (same_text x.view.class y.view.class);
}

-- DIFFERENCES: the aspects of the first item that the second item doesn't have, or for which the second item has another value. The table t is the table before the run. It is needed to find out whether two buckets are the same (`same_bucket`)
abbrev pub differences : List Row → Option ItemData → Option ItemData → Aspects
differences t None None = no_aspects
differences t None (Some y) = only_presence
differences t (Some x) None = aspects_of_item x
differences t (Some x) (Some y) = differences_of_items t x y
