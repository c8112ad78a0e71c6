use Rattle.crush_edits.proofs.PutLaws.{lawful_put, lawful_new, counts_put, counts_new, room_new, room_new_device, put_fits}
use Rattle.crush_edits.proofs.law.put.puts_keep_lawful.Goals as goal

pub returns : goal.returns
returns c = record {
  lawful = λ t ps r w l route found apart row light room. lawful_put t ps l route r w found apart row light room;
  lawful_new = λ t ps d l route gone unnamed no_stop form light room. lawful_new t ps l route d gone unnamed no_stop form light room;
  counts = λ t ps r w l route found. counts_put t ps l route r w found;
  counts_new = λ t ps d l route gone. counts_new t ps l route d gone;
  room = λ t ps r w l route found room. room_new t ps l route r w found room;
  room_device = λ t ps d l route gone room. room_new_device t ps l route d gone room;
  fits = put_fits;
}
