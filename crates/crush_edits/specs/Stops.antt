-- Where a location leads: its stops in ascending order of their type numbers, and the stop that ends its route.
use Rattle.std.specs.Prelude.{ℕ, List, [], Option, Some, None, Bool, not, find, take_while, fold, option_and_then, nat_le, insert}
use Rattle.std.specs.List.{position_or_len}
use Rattle.crush_units.specs.declared.id.ItemId.{ItemId}
use Rattle.crush_units.specs.declared.id.ItemId.TheVariants.{Device, Bucket}
use Rattle.crush_model.specs.Table.{Row, id_named, is_named}
use Rattle.crush_edits.specs.declared.location.Pair.{Pair}
use Rattle.crush_edits.specs.Setting.{SettingData, kind_number}

-- a stop: a pair of a location, but with the number of the type instead of the type's name
pub record StopData : Type 0 where
  pub kind : ℕ
  pub name : List ℕ

-- inserts a stop before the first stop whose type number is at least its own
abbrev pub insert_stop : StopData → List StopData → List StopData
insert_stop p ps = insert ps (position_or_len (λ (q : StopData). nat_le p.kind q.kind) ps) p

-- the stops ps with one more stop, for a pair with this type number and this name. If the pair's type is unknown, no stop is added
abbrev pub with_stop : Option ℕ → List ℕ → List StopData → List StopData
with_stop None n ps = ps
with_stop (Some k) n ps = insert_stop (record { kind = k; name = n }) ps

-- the stops of a location, in ascending order of their type numbers. A pair whose type the setting doesn't have isn't a stop
abbrev pub stops : SettingData → List Pair → List StopData
stops s l = fold (λ ps (p : Pair). with_stop (kind_number s p.kind) p.name ps) [] l

-- whether no item of the table has the name of the stop
abbrev pub is_fresh : List Row → StopData → Bool
is_fresh t p = not (is_named t p.name)

-- the stops before the first stop whose name the table has. For each of these stops, a bucket is created
abbrev pub fresh_stops : List Row → List StopData → List StopData
fresh_stops t ps = take_while (is_fresh t) ps

-- the stop that ends the route: the first stop whose name the table has, or none
abbrev pub end_stop : List Row → List StopData → Option StopData
end_stop t ps = find (λ (p : StopData). is_named t p.name) ps

-- the item that ends the route, or none
abbrev pub end_id : List Row → List StopData → Option ItemId
end_id t ps = option_and_then (λ (p : StopData). id_named t p.name) (end_stop t ps)

-- the distance of a bucket's id below 0; none for a device
abbrev pub number_of : ItemId → Option ℕ
number_of (Device d) = None
number_of (Bucket b) = Some b

-- the bucket that has the name, or none
abbrev pub bucket_named : List Row → List ℕ → Option ℕ
bucket_named t n = option_and_then number_of (id_named t n)

-- the receiver: the bucket that ends the route. It receives the uppermost new bucket, or the item if no bucket is new
abbrev pub receiver : List Row → List StopData → Option ℕ
receiver t ps = option_and_then number_of (end_id t ps)
