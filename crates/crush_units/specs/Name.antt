-- What a name is: 1 to 255 bytes, each an ASCII letter, a digit, `-`, `_` or `.`.
use Rattle.std.specs.Prelude.{◌≡◌, ℕ, ◌<◌, ◌≤◌, Bool, true, false, ◌&&◌, ◌||◌, ◌==◌, nat_lt, nat_le, List, [], length, take, slice_index}
use Rattle.std.specs.List.{list_all}
use Rattle.crush_units.specs.declared.name.NameFault.{NameFault}
use Rattle.crush_units.specs.declared.name.NameFault.TheVariants.{Empty, BadByte, TooLong, OutOfMemory}
use Rattle.crush_units.specs.declared.limits.TheConstants.{LONGEST_NAME}

-- whether a byte is allowed in a name: an ASCII letter, a digit, `-`, `_` or `.`
abbrev pub is_name_byte : ℕ → Bool
is_name_byte b =
    (nat_le 48 b && nat_le b 57) || (nat_le 65 b && nat_le b 90) || (nat_le 97 b && nat_le b 122)
    || b == 45 || b == 95 || b == 46

-- whether each of the bytes is allowed in a name
abbrev pub are_name_bytes : List ℕ → Bool
are_name_bytes bytes = list_all is_name_byte bytes

-- the bytes are a name: there are 1 to 255 bytes, and each is allowed in a name
pub record IsName (bytes : List ℕ) : Type 0 where
  pub some : 0 < length bytes
  pub few : length bytes ≤ LONGEST_NAME
  pub allowed : are_name_bytes bytes ≡ true

-- whether the bytes are a name: the conditions of IsName as a test that computes
abbrev pub is_name : List ℕ → Bool
is_name bytes =
    nat_lt 0 (length bytes) && nat_le (length bytes) LONGEST_NAME && are_name_bytes bytes

-- the place is the index of the first byte that isn't allowed in a name: it is below the number of bytes, the byte at this index isn't allowed in a name, and each byte before it is allowed
pub record IsFirstBad (bytes : List ℕ) (place : ℕ) : Type 0 where
  pub within : place < length bytes
  pub bad : is_name_byte (slice_index bytes place) ≡ false
  pub before : are_name_bytes (take place bytes) ≡ true

-- in which case the reading of a name from the bytes may fail with each fault. Empty: there are no bytes. BadByte: the place is the index of the first byte that isn't allowed. TooLong: there are more than 255 bytes, and all of them are allowed. OutOfMemory: the bytes are a name. For given bytes at most one of these faults is possible
abbrev pub IsNameFault : List ℕ → NameFault → Type 0
IsNameFault bytes Empty = bytes ≡ []
IsNameFault bytes (BadByte place) = IsFirstBad bytes place
IsNameFault bytes TooLong = (LONGEST_NAME < length bytes) × (are_name_bytes bytes ≡ true)
IsNameFault bytes OutOfMemory = IsName bytes

-- the number of a fault
abbrev pub name_fault_number : NameFault → ℕ
name_fault_number Empty = 1
name_fault_number (BadByte place) = 2
name_fault_number TooLong = 3
name_fault_number OutOfMemory = 4
