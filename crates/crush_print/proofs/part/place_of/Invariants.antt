use Rattle.std.proofs.Common.{◌≡◌, false, take}
use Rattle.std.specs.Prelude.{All}
use Rattle.crush_nodes.specs.Seen.{node_id}
use Rattle.crush_units.specs.Id.{same_id}
use Rattle.crush_print.proofs.part.place_of.Given as goal

abbrev pub invariant-loop-place : goal.invariant-loop-place
invariant-loop-place g l = All (λ node. same_id (node_id node) l.id ≡ false) (take l.place l.nodes)
