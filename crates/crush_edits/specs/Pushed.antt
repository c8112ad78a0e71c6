-- Which locations are valid, which pairs can be added to one, and why another pair isn't added.
use Rattle.std.specs.Prelude.{◌≡◌, ℕ, ◌<◌, ◌≤◌, List, false, ◌&&◌, length, All}
use Rattle.crush_units.specs.Name.{IsName, is_name}
use Rattle.crush_units.specs.declared.limits.TheConstants.{MOST_PAIRS}
use Rattle.crush_units.specs.declared.name.NameFault.{NameFault}
use Rattle.crush_units.specs.declared.name.NameFault.TheVariants.{Empty, BadByte, TooLong, OutOfMemory as NoMemory}
use Rattle.crush_edits.specs.declared.location.Pair.{Pair}
use Rattle.crush_edits.specs.declared.location.LocationFault.{LocationFault}
use Rattle.crush_edits.specs.declared.location.LocationFault.TheVariants.{TooMany, BadName, OutOfMemory}

-- a valid location: it has at most MOST_PAIRS pairs, and their type names and bucket names are valid names
pub record IsLocation (l : List Pair) : Type 0 where
  pub few : length l ≤ MOST_PAIRS
  pub kinds : All (λ (p : Pair). IsName p.kind) l
  pub names : All (λ (p : Pair). IsName p.name) l

-- the pair can be added: the location has fewer than MOST_PAIRS pairs, and the type name and the bucket name of the pair are valid names
pub record CanPush (l : List Pair) (kind name : List ℕ) : Type 0 where
  pub room : length l < MOST_PAIRS
  pub kind_form : IsName kind
  pub name_form : IsName name

-- in which case each fault may be returned. TooMany: the location is full. BadName: the location isn't full, and the type name or the bucket name isn't a valid name. OutOfMemory: the pair can be added. For each location and pair, exactly one of the three faults may be returned
abbrev pub IsLocationFault : List Pair → List ℕ → List ℕ → LocationFault → Type 0
IsLocationFault l kind name TooMany = MOST_PAIRS ≤ length l
IsLocationFault l kind name BadName = (length l < MOST_PAIRS) × ((is_name kind && is_name name) ≡ false)
IsLocationFault l kind name OutOfMemory = CanPush l kind name

-- the number of a fault, which is the position of its variant from 1
abbrev pub location_fault_number : LocationFault → ℕ
location_fault_number TooMany = 1
location_fault_number BadName = 2
location_fault_number OutOfMemory = 3

-- the fault of a location for the fault of a name in a pair: the bytes aren't a valid name, or there is no memory for them
abbrev pub fault_of_name : NameFault → LocationFault
fault_of_name Empty = BadName
fault_of_name (BadByte place) = BadName
fault_of_name TooLong = BadName
fault_of_name NoMemory = OutOfMemory
