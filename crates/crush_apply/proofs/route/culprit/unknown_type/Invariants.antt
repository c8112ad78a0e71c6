use Rattle.std.proofs.Common.{◌≡◌, drop}
use Rattle.crush_apply.specs.Culprit.{unknown_type}
use Rattle.crush_apply.proofs.route.culprit.unknown_type.Given as goal

-- the pairs that are left have the same first unknown type as all pairs
abbrev pub invariant-loop-pair : goal.invariant-loop-pair
invariant-loop-pair l = unknown_type l.setting l.pairs ≡ unknown_type l.setting (drop l.pair-index l.pairs)
