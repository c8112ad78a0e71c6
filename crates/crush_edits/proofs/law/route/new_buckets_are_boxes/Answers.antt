use Rattle.crush_edits.proofs.Boxes.{rows-boxes}
use Rattle.crush_edits.proofs.PutLaws.{new_lawful, new_sums}
use Rattle.crush_edits.proofs.law.route.new_buckets_are_boxes.Goals as goal

pub returns : goal.returns
returns c = record {
  boxes = rows-boxes;
  lawful = λ t ps l route. new_lawful t ps l route;
  sums = λ t ps l route. new_sums t ps l route;
}
