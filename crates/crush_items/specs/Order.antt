-- Numbers in ascending order, and the numbers of devices and of roots.
use Rattle.std.specs.Prelude.{ℕ, List, [], ◌∷◌, if◌then◌else◌, is_some, nat_le, flat_map}
use Rattle.crush_units.specs.declared.id.ItemId.{ItemId}
use Rattle.crush_units.specs.declared.id.ItemId.TheVariants.{Device, Bucket}
use Rattle.crush_model.specs.Table.{Row, bucket_ids}

-- the list with the number n inserted before the first number that is at least n, or at the end if there is no such number. If the list is in ascending order, the result is, too
abbrev pub put_in : ℕ → List ℕ → List ℕ
put_in n [] = n ∷ []
put_in n (x ∷ xs) = if nat_le n x then n ∷ (x ∷ xs) else x ∷ put_in n xs

-- the numbers of the list, sorted in ascending order
abbrev pub ascending : List ℕ → List ℕ
ascending [] = []
ascending (n ∷ ns) = put_in n (ascending ns)

-- a list with the number of the device; an empty list for a bucket
abbrev pub device_number : ItemId → List ℕ
device_number (Device d) = d ∷ []
device_number (Bucket b) = []

-- the distance of an id from 0: a device's number, or a bucket's number without its sign
abbrev pub id_number : ItemId → ℕ
id_number (Device d) = d
id_number (Bucket b) = b

-- a list with the number of the row's bucket, if no bucket holds this bucket, which is then a root; an empty list for any other row
abbrev pub root_number : Row → List ℕ
root_number r = if is_some r.parent then [] else bucket_ids r.id

-- the numbers of the roots, in the order of their ids from -1 downward
unfoldable pub root_numbers : List Row → List ℕ
root_numbers t = ascending (flat_map root_number t)
