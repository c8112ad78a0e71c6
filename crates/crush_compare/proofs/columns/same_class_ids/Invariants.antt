use Rattle.std.proofs.Common.{◌≡◌, true, take}
use Rattle.crush_nodes.specs.Seen.{shadow_data}
use Rattle.crush_compare.specs.SameItem.{same_class_id}
use Rattle.crush_compare.proofs.PairLaws.{same_seen}
use Rattle.crush_compare.proofs.columns.same_class_ids.Given as goal

-- both lists have the same class ids at every index visited so far
abbrev pub invariant-loop-index : goal.invariant-loop-index
invariant-loop-index g l = same_seen same_class_id shadow_data shadow_data (take l.index l.before) (take l.index l.after) ≡ true
