-- Which lists of stops are routes, along which an item can be put, and which new buckets can be added to a table.
use Rattle.std.specs.Prelude.{◌≡◌, ℕ, ◌<◌, ◌≤◌, List, Option, true, false, ◌==◌, length, All, IfSome, bytes_eq}
use Rattle.std.specs.List.{count_by}
use Rattle.crush_units.specs.declared.id.ItemId.TheVariants.{Bucket}
use Rattle.crush_units.specs.Name.{IsName}
use Rattle.crush_model.specs.Table.{Row, is_device_id, member, used_ids, is_named, is_there}
use Rattle.crush_edits.specs.Stops.{StopData, end_id}
use Rattle.crush_edits.specs.Put.{NewData}
use Rattle.crush_units.specs.declared.limits.TheConstants.{FARTHEST_BUCKET_ID, LAST_TYPE, MOST_FREE_IDS}

-- a valid stop: its type number is from 1 to 65535, and so can be the type of a bucket, and its name is a valid name
pub record IsStop (p : StopData) : Type 0 where
  pub kind_some : 0 < p.kind
  pub kind_most : p.kind ≤ LAST_TYPE
  pub name : IsName p.name

-- no two stops have the same name
abbrev pub OnceNamed : List StopData → Type 0
OnceNamed ps = (n : List ℕ) → count_by (λ (p : StopData). bytes_eq p.name n) ps ≤ 1

-- a route: there are 1 to 65,536 stops, all of them are valid, no two of them have the same name, and the item that ends the route, if there is one, isn't a device
pub record IsRoute (t : List Row) (ps : List StopData) : Type 0 where
  pub some : 0 < length ps
  pub few : length ps ≤ MOST_FREE_IDS
  pub forms : All IsStop ps
  pub once : OnceNamed ps
  pub ends : IfSome (end_id t ps) (λ i. is_device_id i ≡ false)

-- a valid new bucket: its id and its type number are in range, the type isn't 0, and its name is a valid name
pub record IsNew (n : NewData) : Type 0 where
  pub some : 0 < n.id
  pub most : n.id ≤ FARTHEST_BUCKET_ID
  pub kind_some : 0 < n.kind
  pub kind_most : n.kind ≤ LAST_TYPE
  pub name : IsName n.name

-- new buckets that can be added to the table: all of them are valid, the table uses none of their ids and names, and no two of them have the same id or name. If a bucket `top` is given, into which the last of them is put, it is in the table
pub record AreNew (t : List Row) (ns : List NewData) (top : Option ℕ) : Type 0 where
  pub forms : All IsNew ns
  pub unused : All (λ (n : NewData). member n.id (used_ids t) ≡ false) ns
  pub unnamed : All (λ (n : NewData). is_named t n.name ≡ false) ns
  pub ids : (k : ℕ) → count_by (λ (n : NewData). n.id == k) ns ≤ 1
  pub names : (m : List ℕ) → count_by (λ (n : NewData). bytes_eq n.name m) ns ≤ 1
  pub there : IfSome top (λ b. is_there t (Bucket b) ≡ true)
