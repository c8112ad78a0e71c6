use Rattle.crush_model.proofs.Appended.{Lawful-push_device, Lawful-push_bucket}
use Rattle.crush_model.proofs.Attached.{Lawful-attach}
use Rattle.crush_model.proofs.Classes.{Lawful-set_class}
use Rattle.crush_model.proofs.Columns.{Lawful-set_weight, Lawful-set_subtree}
use Rattle.crush_model.proofs.Moved.{Lawful-moved}
use Rattle.crush_model.proofs.Parted.{Lawful-part_placed}
use Rattle.crush_model.proofs.Removed.{Lawful-without}
use Rattle.crush_model.proofs.Renamed.{Lawful-set_name}
use Rattle.crush_model.proofs.Swapped.{Lawful-swap}
use Rattle.crush_model.proofs.law.changes_keep_lawful.Goals as goal

pub returns : goal.returns
returns c = record {
  without = Lawful-without;
  weight = Lawful-set_weight;
  subtree = Lawful-set_subtree;
  name = Lawful-set_name;
  class = Lawful-set_class;
  parent = Lawful-moved;
  swap = Lawful-swap;
  device = Lawful-push_device;
  bucket = Lawful-push_bucket;
  rows = Lawful-attach;
  part = Lawful-part_placed;
}
