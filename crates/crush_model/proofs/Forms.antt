-- A row stays well-formed with another name, parent or weight.
use Rattle.std.proofs.Common.{◌≡◌, ℕ, ◌≤◌, List}
use Rattle.std.specs.Prelude.{Option, Some, None}
use Rattle.crush_units.specs.declared.id.ItemId.{ItemId}
use Rattle.crush_units.specs.declared.id.ItemId.TheVariants.{Device, Bucket}
use Rattle.crush_model.specs.Table.{Row}
use Rattle.crush_model.specs.Lawful.{IsDeviceRow, IsBucketRow, IsRowOf, IsRow}
use Rattle.crush_units.specs.declared.limits.TheConstants.{HEAVIEST_DEVICE}

-- a device's row stays well-formed with another name, parent and weight
pub device_form : (d : ℕ) (n : List ℕ) (p : Option ℕ) (w : ℕ) (r : Row) → w ≤ HEAVIEST_DEVICE → (p ≡ None → w ≡ 0) → IsDeviceRow d r → IsDeviceRow d (record r { name = n; parent = p; weight = w })
device_form d n p w r light unplaced form = record { id = form.id; kind = form.kind; light = light; unplaced = unplaced; alg = form.alg; class_ids = form.class_ids; class = form.class }

-- a bucket's row stays well-formed with another name and parent
pub bucket_form : (b : ℕ) (n : List ℕ) (p : Option ℕ) (r : Row) → IsBucketRow b r → IsBucketRow b (record r { name = n; parent = p })
bucket_form b n p r form = record {
  some = form.some;
  most = form.most;
  kind_some = form.kind_some;
  kind_most = form.kind_most;
  weight = form.weight;
  class = form.class;
  alg = form.alg;
  class_ids = form.class_ids;
  few = form.few;
  classes = form.classes;
}

-- any row stays well-formed with another name
pub named_form : (i : ItemId) (n : List ℕ) (r : Row) → IsRowOf i r → IsRowOf i (record r { name = n })
named_form (Device d) n r form = device_form d n r.parent r.weight r form.light form.unplaced form
named_form (Bucket b) n r form = bucket_form b n r.parent r form

-- any row stays well-formed with a bucket as its parent
pub placed_form : (i : ItemId) (p : ℕ) (r : Row) → IsRowOf i r → IsRowOf i (record r { parent = Some p })
placed_form (Device d) p r form = device_form d r.name (Some p) r.weight r form.light (λ e. absurd cc) form
placed_form (Bucket b) p r form = bucket_form b r.name (Some p) r form

pub placed_row : (p : ℕ) (r : Row) → IsRow r → IsRow (record r { parent = Some p })
placed_row p r row = record { name = row.name; form = placed_form r.id p r row.form }

-- a device's row stays well-formed with a bucket as its parent and another weight
pub placed_device : (d p w : ℕ) (r : Row) → r.id ≡ Device d → w ≤ HEAVIEST_DEVICE → IsRow r → IsRow (record r { parent = Some p; weight = w })
placed_device d p w r e light row = record { name = row.name; form = by_id r.id e row.form } where
  by_id : (i : ItemId) → i ≡ Device d → IsRowOf i r → IsRowOf i (record r { parent = Some p; weight = w })
  by_id (Device x) h form = device_form x r.name (Some p) w r light (λ z. absurd cc) form
  by_id (Bucket b) h form = absurd cc
