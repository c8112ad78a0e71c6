use Rattle.std.proofs.Common.{◌≡◌, take}
use Rattle.crush_edits.proofs.location.Location.try_copy.Given as goal

-- the pairs so far are copied
abbrev pub invariant-loop-pair : goal.invariant-loop-pair
invariant-loop-pair l = l.pairs.items ≡ take l.pair-index l.pair-items
