use Rattle.std.proofs.Common.{ap}
use Rattle.crush_model.specs.Items.{device, none}
use Rattle.crush_nodes.proofs.copy.push_leaf.Goals as goal

pub returns-clause-pushed : goal.returns-clause-pushed
returns-clause-pushed g c = record { node = _; last = c.push_reserved.ensures.items; item = ap (λ d. device d none) c.in_ok-leaf.ensures }
