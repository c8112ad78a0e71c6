-- The reasons for refusals that depend on the map, such as which bucket holds an item.
use Rattle.std.specs.Prelude.{ℕ, ◌==◌, List, [], ◌++◌, Option, None, Some, Bool, bytes_eq, codes, decimal, find, if◌then◌else◌, length, option_and_then, unwrap_or}
use Rattle.std.specs.List.{list_any}
use Rattle.std.specs.Option.{option_map, option_map_or}
use Rattle.crush_units.specs.declared.id.ItemId.TheVariants.{Bucket}
use Rattle.crush_model.specs.Table.{Row, class_of, id_named, kids, kind_of, member, name_of, parent_of}
use Rattle.crush_edits.specs.declared.edit.Edit.{Edit}
use Rattle.crush_edits.specs.declared.edit.Edit.TheVariants.{Place, Move}
use Rattle.crush_edits.specs.declared.location.Pair.{Pair}
use Rattle.crush_edits.specs.Setting.{RuleData, SettingData, StepData, bucket_taken, kind_name}
use Rattle.crush_edits.specs.Stops.{bucket_named}
use Rattle.crush_reasons.specs.Near.{near_if, near_kind_if}

-- the end of a reason that suggests a similar name; nothing if no similar name was searched for or found
abbrev pub near_asked : Option (List ℕ) → List ℕ
near_asked None = []
near_asked (Some near) = codes ": did you mean " ++ near ++ codes "?"

-- the reason for a name that the map doesn't have: the name, what is wrong with it, and a similar name if one was searched for and found
abbrev pub asked_reason : List ℕ → List ℕ → Option (List ℕ) → List ℕ
asked_reason n said near = n ++ said ++ near_asked near

abbrev pub absent_reason : Bool → List Row → List ℕ → List ℕ
absent_reason looks t n = asked_reason n (codes " doesn't exist") (near_if looks t n)

abbrev pub no_kind_reason : Bool → SettingData → List ℕ → List ℕ
no_kind_reason looks s n = asked_reason n (codes " is not a type of the map") (near_kind_if looks s n)

-- how many items the bucket with this name holds; 0 if no bucket has this name
abbrev pub held_count : List Row → List ℕ → ℕ
held_count t n = option_map_or (λ b. length (kids t b)) (bucket_named t n) 0

unfoldable pub items_said : ℕ → List ℕ
items_said count = codes " holds " ++ decimal count ++ codes " items: move or remove them first"

abbrev pub held_said : ℕ → List ℕ
held_said count = if count == 1 then codes " holds 1 item: move or remove it first" else items_said count

-- whether a step of a rule takes the bucket, with or without a class
abbrev pub takes_it : ℕ → RuleData → Bool
takes_it b r = list_any (λ (x : StepData). member b (bucket_taken x)) r.steps

-- the name of the first rule that takes the bucket; none if no rule takes it
abbrev pub taking_rule : SettingData → ℕ → Option (List ℕ)
taking_rule s b = option_map (λ (r : RuleData). r.name) (find (takes_it b) s.rules)

abbrev pub taken_reason : List ℕ → Option (List ℕ) → List ℕ
taken_reason n None = n ++ codes " is taken by a rule"
taken_reason n (Some rule) = codes "the rule " ++ rule ++ codes " takes " ++ n

-- the name of the bucket that holds the item with this name; none if no bucket holds it
abbrev pub holder_name : List Row → List ℕ → Option (List ℕ)
holder_name t n = option_and_then (λ b. name_of t (Bucket b)) (option_and_then (parent_of t) (id_named t n))

abbrev pub placed_said : Option (List ℕ) → List ℕ
placed_said None = codes " is already in a bucket: use set or create-or-move to move it"
placed_said (Some holder) = codes " is already in " ++ holder ++ codes ": use set or create-or-move to move it"

-- the class of the device with this name; none if it has no class
abbrev pub class_named : List Row → List ℕ → Option (List ℕ)
class_named t n = option_and_then (class_of t) (id_named t n)

abbrev pub bound_said : Option (List ℕ) → List ℕ
bound_said None = codes " has a different class: remove this class first with rm-device-class"
bound_said (Some class) = codes " has the class " ++ class ++ codes ": remove this class first with rm-device-class"

-- A MOVE INTO ITSELF: the location of the move leads to the moved bucket itself, or to a bucket below it. `n` is the name of the moved bucket, and `end` is the name of the bucket to which the location leads
abbrev pub below_reason : List ℕ → List ℕ → List ℕ
below_reason n end = end ++ codes " is below " ++ n ++ codes ": a bucket can't be moved below itself"

abbrev pub loop_reason : List ℕ → List ℕ → List ℕ
loop_reason n end = if bytes_eq n end then n ++ codes " can't be moved into itself" else below_reason n end

-- the type of the item with this name; empty if the map has no such item or type
abbrev pub type_of_item : SettingData → List Row → List ℕ → List ℕ
type_of_item s t n = unwrap_or (option_and_then (kind_name s) (option_and_then (kind_of t) (id_named t n))) []

-- the type in the first pair of a location that has this name; empty if no pair has it
abbrev pub type_of_pair : List Pair → List ℕ → List ℕ
type_of_pair l n = unwrap_or (option_map (λ (p : Pair). p.kind) (find (λ (p : Pair). bytes_eq p.name n) l)) []

-- A WRONG TYPE: the bucket `end`, to which the location leads, has the type `own`, but the pair with the bucket's name has the type `wanted`
abbrev pub types_reason : List ℕ → List ℕ → List ℕ → List ℕ
types_reason end own wanted = end ++ codes " is of type " ++ own ++ codes ", not " ++ wanted

abbrev pub end_reason : SettingData → List Row → List Pair → List ℕ → List ℕ
end_reason s t l end = types_reason end (type_of_item s t end) (type_of_pair l end)

-- the location at which an edit puts an item; none for an edit without a location
abbrev pub location_of : Edit → Option (List Pair)
location_of (Place how d n w l) = Some l
location_of (Move n l) = Some l
location_of e = None

-- the reason for a wrong type if the edit has no location. Such an edit creates a bucket, and names the type of devices as the bucket's type
abbrev pub kind_reason : List ℕ → List ℕ
kind_reason kind = kind ++ codes " is the type of devices"

abbrev pub type_reason : SettingData → List Row → Option (List Pair) → List ℕ → List ℕ
type_reason s t (Some l) end = end_reason s t l end
type_reason s t None kind = kind_reason kind

-- the name of the bucket that is moved; empty if the edit isn't a `move`
abbrev pub moved_name : Edit → List ℕ
moved_name (Move n l) = n
moved_name e = []
