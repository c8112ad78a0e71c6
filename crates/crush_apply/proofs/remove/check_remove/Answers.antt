use Rattle.std.proofs.Common.{◌≡◌, ℕ, rules, refl}
use Rattle.crush_units.specs.declared.id.ItemId.{ItemId}
use Rattle.crush_units.specs.declared.id.ItemId.TheVariants.{Device, Bucket}
use Rattle.crush_model.specs.Forest.{ForestData}
use Rattle.crush_hierarchy.specs.Removing.{StandsAlone}
use Rattle.crush_apply.proofs.Found.{found_there}
use Rattle.crush_apply.proofs.remove.check_remove.Goals as goal

-- no item is below a device
device_alone : (i : ItemId) (f : ForestData) → ((b : ℕ) → i ≡ Bucket b → ⊥) → StandsAlone i f
device_alone (Device d) f other = tt
device_alone (Bucket b) f other = absurd (other b refl)

pub holds_items-requires : goal.holds_items-requires
holds_items-requires g c = found_there c.args.hierarchy.now _ c.in-Some.id (Bucket c.in-Bucket.bucket) c.recall_invariant.ensures c.in-Some.ensures c.in-Bucket.is

pub returns-then-takes-clause-refused : goal.returns-then-takes-clause-refused
returns-then-takes-clause-refused g c = search rules
