-- Which edits the commands of a script can express.
use Rattle.std.specs.Prelude.{◌≡◌, ℕ, ◌<◌, ◌^◌, ◌==◌, Bool, not, ◌&&◌, ◌||◌, List, length, take, drop, slice_index, codes, bytes_eq, Option, Some, None, if◌then◌else◌}
use Rattle.std.specs.Str.Parse.{digits_value}
use Rattle.crush_units.specs.Name.{IsName}
use Rattle.crush_units.specs.Weight.{are_digits}
use Rattle.crush_units.specs.Id.{device_from}
use Rattle.crush_edits.specs.declared.location.Pair.{Pair}
use Rattle.crush_edits.specs.declared.edit.Edit.{Edit}
use Rattle.crush_edits.specs.declared.edit.Edit.TheVariants.{Place, Move, Swap, Reweight, ReweightSubtree, Remove, AddBucket, Rename, SetClass, RemoveClass}
use Rattle.crush_edits.specs.Pushed.{IsLocation}

-- whether a text is 1 to 10 digits, and the first digit isn't 0 unless it is the only digit
abbrev pub is_plain : List ℕ → Bool
is_plain digits = are_digits 10 digits && (length digits == 1 || not (slice_index digits 0 == 48))

-- the id N of the device whose name is `osd.N`, or none if the name doesn't have this form or N is above 2147483647
abbrev pub device_named : List ℕ → Option ℕ
device_named name =
    if bytes_eq (take 4 name) (codes "osd.") && is_plain (drop 4 name) then device_from (digits_value 10 (drop 4 name))
    else None

-- a command can express that a device is placed: its name n is `osd.N`, where N is its id d; its weight w is below 2^32; and l has the form of a location
pub record IsSaidPlacing (d : ℕ) (n : List ℕ) (w : ℕ) (l : List Pair) : Type 0 where
  pub name : IsName n
  pub device : device_named n ≡ Some d
  pub weight : w < 2 ^ 32
  pub at : IsLocation l

-- a command can express the edit: each name in it has the form of a name, each weight is below 2^32, each location has the form of a location, and a device that the edit places satisfies `IsSaidPlacing`
abbrev pub IsSaid : Edit → Type 0
IsSaid (Place how d n w l) = IsSaidPlacing d n w l
IsSaid (Move n l) = IsName n × IsLocation l
IsSaid (Swap a b) = IsName a × IsName b
IsSaid (Reweight n w) = IsName n × (w < 2 ^ 32)
IsSaid (ReweightSubtree n w) = IsName n × (w < 2 ^ 32)
IsSaid (Remove n) = IsName n
IsSaid (AddBucket n kind) = IsName n × IsName kind
IsSaid (Rename from to) = IsName from × IsName to
IsSaid (SetClass n c) = IsName n × IsName c
IsSaid (RemoveClass n) = IsName n
