-- The ids that at least one of two tables has.
use Rattle.std.specs.Prelude.{ℕ, List, [], ◌∷◌, ◌++◌, Option, None, Some, if◌then◌else◌, map, flat_map}
use Rattle.crush_units.specs.declared.id.ItemId.{ItemId}
use Rattle.crush_units.specs.declared.id.ItemId.TheVariants.{Device, Bucket}
use Rattle.crush_model.specs.Table.{Row, bucket_ids}
use Rattle.crush_items.specs.Order.{ascending, device_number}
use Rattle.crush_compare.specs.Equal.{same_option}

-- the given list without repetitions; its numbers must be in ascending order. `last` is the number before the list, or none if there is no number before it
abbrev pub once_behind : Option ℕ → List ℕ → List ℕ
once_behind last [] = []
once_behind last (x ∷ xs) = if same_option last (Some x) then once_behind (Some x) xs else x ∷ once_behind (Some x) xs

abbrev pub once : List ℕ → List ℕ
once xs = once_behind None xs

-- ALL IDS: `all_ids` are the ids that at least one of the tables has, each once: first the buckets from -1 downward, and then the devices upward. `all_buckets` and `all_devices` are the numbers of these ids
unfoldable pub all_buckets : List Row → List Row → List ℕ
all_buckets t u = once (ascending (flat_map (λ (r : Row). bucket_ids r.id) t ++ flat_map (λ (r : Row). bucket_ids r.id) u))

unfoldable pub all_devices : List Row → List Row → List ℕ
all_devices t u = once (ascending (flat_map (λ (r : Row). device_number r.id) t ++ flat_map (λ (r : Row). device_number r.id) u))

unfoldable pub all_ids : List Row → List Row → List ItemId
all_ids t u = map Bucket (all_buckets t u) ++ map Device (all_devices t u)
