use Rattle.std.proofs.Common.{◌≡◌, ◌==◌, drop}
use Rattle.crush_model.specs.Tested.{are_apart}
use Rattle.crush_nodes.specs.Seen.{shadow_numbers}
use Rattle.crush_nodes.proofs.apart.are_distinct_ids.Given as goal

abbrev pub invariant-loop-i : goal.invariant-loop-i
invariant-loop-i g l = are_apart (λ a b. b == a) (shadow_numbers l.class_ids) ≡ are_apart (λ a b. b == a) (shadow_numbers (drop l.i l.class_ids))
