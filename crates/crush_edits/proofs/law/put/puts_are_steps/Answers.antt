use Rattle.crush_edits.proofs.PutLaws.{moves, moves_device, new_puts, takes, boxed_item, boxed_device, boxed_new}
use Rattle.crush_edits.proofs.law.put.puts_are_steps.Goals as goal

pub returns : goal.returns
returns c = record {
  moves = λ t ps r n l route found apart room one whole. moves t ps l route r n found apart room one whole;
  device = λ t ps r d w l route found apart room whole. moves_device t ps l route r w found apart room d whole;
  new = λ t ps d l route gone. new_puts t ps l route d gone;
  takes = λ t ps r n l route found apart room one whole. takes t ps l route r n found apart room one whole;
  boxed = λ m t ps r n l route found apart room one whole. boxed_item t ps l route m r n found apart room one whole;
  boxed_device = λ m t ps r d w l route found apart room whole. boxed_device t ps l route r w found m apart room d whole;
  boxed_new = λ m t ps d l route gone. boxed_new t ps l route d gone m;
}
