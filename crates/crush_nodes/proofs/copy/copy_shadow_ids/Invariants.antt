use Rattle.std.proofs.Common.{◌≡◌, length, map, take}
use Rattle.std.specs.Prelude.{vec_len, vec_capacity}
use Rattle.crush_nodes.specs.Seen.{shadow_data}
use Rattle.crush_nodes.proofs.copy.copy_shadow_ids.Given as goal

abbrev pub invariant-loop-class_id : goal.invariant-loop-class_id
invariant-loop-class_id g l = record {
  room : vec_capacity l.copies ≡ length l.class_ids;
  count : vec_len l.copies ≡ l.class_id-index;
  same : map shadow_data l.copies.items ≡ map shadow_data (take l.class_id-index l.class_ids);
}
