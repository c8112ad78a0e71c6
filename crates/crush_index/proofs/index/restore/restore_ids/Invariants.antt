use Rattle.std.proofs.Common.{◌≡◌, ◌+◌, ◌∷◌, length, take}
use Rattle.crush_nodes.specs.Seen.{shadow_numbers}
use Rattle.crush_index.specs.Hashings.{used_hashing}
use Rattle.crush_index.specs.UsedAnswers.{ComeIntoUse}
use Rattle.crush_index.proofs.index.restore.restore_ids.Given as goal

abbrev pub invariant-loop-class_id : goal.invariant-loop-class_id
invariant-loop-class_id g l = record {
  answers : ComeIntoUse (l.header.id ∷ shadow_numbers (take l.class_id-index l.class_id-items)) l.fn.used l.used;
  hashing : used_hashing l.used ≡ used_hashing l.fn.used;
  spares : length l.spares.items + l.class_id-index ≡ length l.class_id-items;
}
