use Rattle.crush_since.specs.Since.{all_ids}
use Rattle.crush_since.proofs.since.counting.count_changes.Goals as goal

pub returns : goal.returns
returns g c = λ t u a b. c.of.ensures t u (all_ids t u) (c.in_ok-both.ensures.pairs t u a b).pairs
