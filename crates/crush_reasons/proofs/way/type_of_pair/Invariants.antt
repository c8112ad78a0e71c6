use Rattle.std.proofs.Common.{◌≡◌, drop}
use Rattle.crush_reasons.specs.Way.{type_of_pair}
use Rattle.crush_reasons.proofs.way.type_of_pair.Given as goal

abbrev pub invariant-loop-pair : goal.invariant-loop-pair
invariant-loop-pair l = type_of_pair l.pairs l.name ≡ type_of_pair (drop l.pair-index l.pairs) l.name
