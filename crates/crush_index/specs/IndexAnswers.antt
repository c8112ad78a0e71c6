-- What an index answers, and when its answers are right for a table.
use Rattle.std.specs.Prelude.{ℕ, List, [], ◌∷◌, Option, Some, None, Bool, false, ◌||◌, if◌then◌else◌, bytes_eq}
use Rattle.crush_units.specs.declared.id.ItemId.{ItemId}
use Rattle.crush_units.specs.Id.{same_id}
use Rattle.crush_model.specs.ItemRows.{device_row, bucket_row}
use Rattle.crush_model.specs.Table.{Row, is_device, is_named, is_there, member, used_ids}
use Rattle.crush_nodes.specs.Guides.{place_under}
use Rattle.crush_nodes.specs.Seen.{leaf_data}
use Rattle.crush_nodes.specs.declared.node.Node.{Node}
use Rattle.crush_nodes.specs.declared.node.Node.TheVariants.{Device, Bucket}
use Rattle.crush_nodes.specs.declared.place.Place.{Place}
use Rattle.crush_index.specs.declared.index.Index.{Index}
use Rattle.crush_index.specs.NamesAnswers.{id_answer, AreNamesOf}
use Rattle.crush_index.specs.PlacesAnswers.{place_answer, ArePlacesOf}
use Rattle.crush_index.specs.UsedLaw.{uses}
use Rattle.crush_index.specs.UsedAnswers.{used_answer, AreUsedIn}

-- INDEX OF A TABLE: all answers of the index are right for the table: the id of each name, the place of each item, and which ids are used
pub record IsIndexOf (t : List Row) (index : Index) : Type 0 where
  pub names : AreNamesOf t index.names
  pub places : ArePlacesOf t index.places
  pub used : AreUsedIn t index.used

-- all answers of an index: the id of each name, the place of each item, and whether each bucket id is used, given as its distance below 0
pub record Answers : Type 0 where
  pub names : List ℕ → Option ItemId
  pub places : ItemId → Option Place
  pub used : ℕ → Bool

-- the answers of this index
abbrev pub answers : Index → Answers
answers index = record { names = id_answer index.names; places = place_answer index.places; used = used_answer index.used }

-- the answers after the row r was added: the name of r has the id of r, the item of r is at the place that the parent of r gives, and all ids that r uses are used
abbrev pub with_row : Row → Answers → Answers
with_row r s = record {
  names = λ n. if bytes_eq r.name n then Some r.id else s.names n;
  places = λ i. if same_id r.id i then Some (place_under (is_device r) r.parent) else s.places i;
  used = λ k. s.used k || member k (uses r);
}

-- the answers after several rows were added, in their order
abbrev pub with_rows : List Row → Answers → Answers
with_rows [] s = s
with_rows (r ∷ t) s = with_rows t (with_row r s)

-- the answers after all names and ids of these rows were removed: the names have no id, the items have no place, and the ids are free
abbrev pub without_rows : List Row → Answers → Answers
without_rows t s = record {
  names = λ n. if is_named t n then None else s.names n;
  places = λ i. if is_there t i then None else s.places i;
  used = λ k. if member k (used_ids t) then false else s.used k;
}

-- the answers after a name got the id i
abbrev pub with_name : List ℕ → ItemId → Answers → Answers
with_name name i s = record s { names = λ n. if bytes_eq name n then Some i else s.names n }

-- the answers after a name was removed
abbrev pub without_name : List ℕ → Answers → Answers
without_name name s = record s { names = λ n. if bytes_eq name n then None else s.names n }

-- the row of the node itself, with this parent or with no parent; the rows of the items below the node aren't included
abbrev pub own_row : {A : _} → Option ℕ → Node A → Row
own_row p (Device l) = device_row p (leaf_data l)
own_row p (Bucket b) = bucket_row p b.value.header
