-- The refusals of the edits with a location, each with its test, except those that are about the table after the edit.
use Rattle.std.specs.Prelude.{ℕ, List, [], ◌∷◌, ◌++◌, Bool, not, ◌==◌, ◌||◌, length, map, is_none, bytes_eq}
use Rattle.std.specs.List.{list_any}
use Rattle.crush_units.specs.declared.id.ItemId.{ItemId}
use Rattle.crush_units.specs.declared.id.ItemId.TheVariants.{Device}
use Rattle.crush_units.specs.Id.{same_id}
use Rattle.crush_model.specs.Table.{Row, id_named, kind_of, name_of}
use Rattle.crush_model.specs.Tested.{are_apart}
use Rattle.crush_edits.specs.declared.location.Pair.{Pair}
use Rattle.crush_edits.specs.declared.refusal.Refusal.{Refusal}
use Rattle.crush_edits.specs.declared.refusal.Refusal.TheVariants.{BadName, BadLocation, NoSuchType, NoPlace, WeightTooLarge, NameTaken, NotABucket, WrongType}
use Rattle.crush_edits.specs.Setting.{SettingData, kind_number}
use Rattle.crush_edits.specs.Stops.{StopData, end_stop, end_id}
use Rattle.crush_edits.specs.Answer.{meets, is_a_device, is_heavy}

-- whether the list has a name twice
abbrev pub has_twice : List (List ℕ) → Bool
has_twice ns = not (are_apart bytes_eq ns)

-- whether the pair's type is type 0, the type of devices
abbrev pub is_type_zero : SettingData → Pair → Bool
is_type_zero s p = meets (λ k. k == 0) (kind_number s p.kind)

-- whether the location has a type name twice, or a bucket name twice, or the name of type 0 as a type name
abbrev pub is_bad_location : SettingData → List Pair → Bool
is_bad_location s l = has_twice (map (λ (p : Pair). p.kind) l) || (has_twice (map (λ (p : Pair). p.name) l) || list_any (is_type_zero s) l)

-- whether the location has a type name that the setting doesn't have
abbrev pub has_no_kind : SettingData → List Pair → Bool
has_no_kind s l = list_any (λ (p : Pair). is_none (kind_number s p.kind)) l

-- whether the location has this name as the name of a bucket
abbrev pub names_it : List Pair → List ℕ → Bool
names_it l n = list_any (λ (p : Pair). bytes_eq p.name n) l

-- whether an item with another id has the name, or the item with this id has another name
abbrev pub is_taken : List Row → ItemId → List ℕ → Bool
is_taken t i n = meets (λ j. not (same_id j i)) (id_named t n) || meets (λ m. not (bytes_eq m n)) (name_of t i)

-- whether the type of the item that ends the route differs from the type in the location's pair that names the item
abbrev pub is_wrong_kind : List Row → List StopData → Bool
is_wrong_kind t ps = meets (λ (p : StopData). meets (λ i. meets (λ k. not (k == p.kind)) (kind_of t i)) (id_named t p.name)) (end_stop t ps)

-- THE REFUSALS that are about the location alone, with their tests: the location has a type name twice, or a bucket name twice, or the name of type 0 as a type name; it has an unknown type; it has no pairs
abbrev pub location_tests : SettingData → List Pair → List (Refusal × Bool)
location_tests s l = (BadLocation, is_bad_location s l) ∷ ((NoSuchType, has_no_kind s l) ∷ ((NoPlace, length l == 0) ∷ []))

-- the refusals that are about a device and its location, with their tests: the location has the device's name; the tests of the location; the weight is too large; the device's name belongs to another item, or the device's id has another name
abbrev pub located_device_tests : SettingData → List Row → ℕ → List ℕ → ℕ → List Pair → List (Refusal × Bool)
located_device_tests s t d n w l = (BadName, names_it l n) ∷ (location_tests s l ++ ((WeightTooLarge, is_heavy w) ∷ ((NameTaken, is_taken t (Device d) n) ∷ [])))

-- the refusals that are about the end of a route, with their tests: the item that ends the route is a device; the type of this item differs from the type in the location's pair that names the item
abbrev pub end_tests : List Row → List StopData → List (Refusal × Bool)
end_tests t ps = (NotABucket, is_a_device (end_id t ps)) ∷ ((WrongType, is_wrong_kind t ps) ∷ [])
